-- `text_of` writes level after level; the chunks that the iterator has left are those that are not written yet.
use Prim.Native.Nat.{ℕ, ◌^◌, ◌≤◌}
use mathlib.Core.Path.{◌≡◌, refl, ap, sym, ◌∙◌}
use mathlib.Core.List.{List, [], ◌∷◌, ◌++◌, append-nil}
use native.Mathlib.Omega.{arith}
use lib.ListN.{length, length-append}
use Rattle.std.proofs.lemmas.List.{get_or-append-add}
use Rattle.std.specs.Slice.Iter.{chunks_exact_rest}
use Rattle.defs.specs.Text.{decimal}
use Rattle.defs.specs.Levels.{levels_of, levels_text}
use Rattle.levels.specs.Base.{room}
use Rattle.levels.proofs.Words.{base_of}
use Rattle.levels.proofs.Writing.{levels_none, levels_front, levels_fit, text_none, text_behind}
use Rattle.levels.proofs.text_of.Goals as goal
use Rattle.levels.proofs.text_of.Goals.{After-level_of, Start}

-- the level of the chunk is the first that is left
whole : (c : After-level_of) → ((c.loop-chunk.text ++ decimal c.level_of.result) ++ (10 ∷ [])) ++ levels_text (levels_of (2 ^ c.args.scale.field.m) c.args.scale.r (chunks_exact_rest c.next.new.self))
    ≡ levels_text (levels_of (2 ^ c.args.scale.field.m) c.args.scale.r c.args.row.now)
whole c =
    let step = c.in-Some.ensures.steps in
    let front : levels_of (2 ^ c.args.scale.field.m) c.args.scale.r (chunks_exact_rest c.loop-chunk.chunk-iterator)
    ≡ c.level_of.result ∷ levels_of (2 ^ c.args.scale.field.m) c.args.scale.r (chunks_exact_rest c.next.new.self) =
    rw (step.1.0, c.level_of.ensures)
    (levels_front _ _ (chunks_exact_rest c.next.new.self) c.in-Some.chunk.now (step.1.1 ∙ c.loop-chunk.invariant.size) c.args.scale.depth.0) in
    text_behind c.loop-chunk.text c.level_of.result _ ∙ ap (λ (l : List ℕ). c.loop-chunk.text ++ levels_text l) (sym front) ∙ c.loop-chunk.invariant.is

fits : (c : After-level_of) → length (levels_text (levels_of (2 ^ c.args.scale.field.m) c.args.scale.r c.args.row.now)) ≤ room
fits c = levels_fit _ _ _ (base_of _ _ _ c.args.scale.field.known c.args.scale.depth refl) c.requires.symbols c.requires.short

pub loop-chunk-preserved : goal.loop-chunk-preserved
loop-chunk-preserved c = record {
  size = c.in-Some.ensures.steps.0 ∙ c.loop-chunk.invariant.size;
  symbols = λ i. rw (← get_or-append-add c.in-Some.chunk.now (chunks_exact_rest c.next.new.self) i 0, ← c.in-Some.ensures.steps.1.0) (c.loop-chunk.invariant.symbols _);
  is = rw (c.put.ensures, c.put_number.ensures) (whole (goal.at.loop-chunk-preserved c).After-level_of);
}

pub put_number-requires : goal.put_number-requires
put_number-requires c = omega (arith, fits c, ap length (whole c), length-append {A = ℕ})

pub put-requires : goal.put-requires
put-requires c =
    let before = (goal.at.put-requires c).After-level_of in
    omega (arith, fits before, ap length (whole before), ap length c.put_number.ensures, length-append {A = ℕ})

pub returns : goal.returns
returns c =
    let none = levels_none (2 ^ c.args.scale.field.m) c.args.scale.r (chunks_exact_rest c.loop-chunk.chunk-iterator) (omega (arith, c.in-None.ensures.steps.1.0, c.loop-chunk.invariant.size)) in
    rw (none, text_none, append-nil) at c.loop-chunk.invariant.is
