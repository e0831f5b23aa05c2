-- How the first line of a text is judged, from the number that was read there.
use Prim.Native.Nat.{ℕ, ◌+◌, ◌<◌}
use mathlib.Core.Bool.{true}
use mathlib.Core.Path.{◌≡◌, ap, sym, ◌∙◌}
use mathlib.Core.List.{List}
use native.Mathlib.Numerals.{add-one}
use native.Mathlib.Omega.{arith}
use lib.Dec.{leb}
use lib.ListN.{length, drop}
use Rattle.defs.specs.Text.{digit_count}
use Rattle.defs.specs.Levels.{written, value_of}
use Rattle.std.specs.Option.{is_some}
use Rattle.text.specs.Number.{capped, number_in}
use Rattle.text.proofs.Numbers.{some_capped}
use Rattle.text.specs.declared.number.Number.{Number}
use Rattle.levels.specs.Lines.{head_line, behind}
use Rattle.levels.proofs.FirstLine.{head_value, newline_within, ended_behind, written_known}

module _ (top : ℕ) (text : List ℕ) (n : Number) (read : n ≡ number_in top text) where
  pub end_is : n.end ≡ digit_count text
  unfolding number_in
  end_is = ap (λ (x : Number). x.end) read

  pub value_is : n.value ≡ capped top (value_of (head_line text))
  unfolding number_in
  value_is = ap (λ (x : Number). x.value) read ∙ ap (capped top) (sym (head_value text 0))

  pub some_is : is_some n.value ≡ leb (value_of (head_line text)) top
  some_is = ap is_some value_is ∙ some_capped top (value_of (head_line text))

  module _ (well : written (head_line text) ≡ true) where
    pub end_inside : n.end < length text
    end_inside = omega (arith, end_is, newline_within text (digit_count text) (written_known text well).1)

    pub line_behind : drop (n.end + 1) text ≡ behind text
    line_behind = rw (end_is, add-one) (sym (ended_behind text (written_known text well).1))
