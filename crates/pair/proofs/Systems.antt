-- The equations of all chunks, one chunk after another, and the numbers of a checked code behind them.
use Prim.Native.Nat.{ℕ, ◌+◌, ◌*◌, ◌<◌, ◌≤◌}
use mathlib.Core.Path.{◌≡◌, refl, ap, subst, ◌∙◌}
use mathlib.Core.Logic.{⊎_elim}
use mathlib.Core.List.{List}
use native.Mathlib.Nat.{suc-mul, mul_comm, mul-le-mul_right}
use native.Mathlib.Omega.{arith}
use lib.ListN.{length, get_or}
use lib.Pow.{pow_pos}
use Rattle.defs.specs.Field.{Width}
use Rattle.defs.specs.Distance.{symbol}
use Rattle.theory.proofs.Order.{eq_or_not, eq_lt}
use Rattle.solve.specs.Table.{stride, table_size, at, Shape}
use Rattle.pair.specs.Equation.{Equation}
use Rattle.theory.specs.Fill.{Span}
use Rattle.theory.proofs.Spans.{span_symbols}
use Rattle.pair.specs.Fill.{look, Chunk, System}
use Rattle.pair.proofs.Chunks.{mixed_same}

-- a table of zeros
pub zero_shape : {m : ℕ} (t : List ℕ) → Width m → length t ≡ table_size → ((k : ℕ) → get_or t k 0 ≡ 0) → Shape m t
zero_shape {m} t w n z = record { width = w; size = n; symbols = λ k. eq_lt (z k) (pow_pos m) }

-- chunk i ends where chunk i + 1 begins, and within the row
chunk_end : (r i n : ℕ) → i < n → i * r + r ≤ n * r
chunk_end r i n l = omega (arith, suc-mul i r, mul-le-mul_right r l)

pub chunk_fits : (r i n : ℕ) → i < n → i * r + r ≤ r * n
chunk_fits r i n l = omega (arith, chunk_end r i n l, mul_comm r n)

equation_same : {m s₀ s₁ P P' : ℕ} {w w' : ℕ → ℕ} {b j : ℕ} {row row' : ℕ → ℕ} → P ≡ P' → ((c : ℕ) → c < b → w c ≡ w' c)
    → ((c : ℕ) → c < s₀ + s₁ → row' c ≡ row c) → Equation m s₀ s₁ P w b j row → Equation m s₀ s₁ P' w' b j row'
equation_same {m} {s₀} {s₁} {P} {P'} {w} {w'} {b} {j} {row} {row'} p e f E =
    subst (λ (x : ℕ). Equation m s₀ s₁ x w' b j row') p
    (record {
      first = λ a l. f a (omega arith) ∙ E.first a l;
      second = λ a l. f (s₀ + a) (omega arith) ∙ E.second a l ∙ mixed_same m P w w' b j a e;
    })

module _ {m r s₀ s₁ : ℕ} {points w : List ℕ} where
  pub system_none : {t : List ℕ} → Shape m t → System m r s₀ s₁ 0 points w t
  system_none H = record { shape = H; rows = λ i l. absurd (omega arith) }

  pub system_more : {i n d P : ℕ} {t t' rows : List ℕ} (chunk : List ℕ) → s₀ + s₁ ≤ stride → P ≡ get_or points i 0 → n ≡ r → d ≡ r * stride
      → ((c : ℕ) → c < r → get_or chunk c 0 ≡ symbol r w i c) → System m r s₀ s₁ i points w t
      → Chunk m n s₀ s₁ P (look chunk) n rows → Span t (i * r * stride) d (look rows) t' → System m r s₀ s₁ (i + 1) points w t'
  system_more {i} {n} {d} {P} {t} {t'} {rows} chunk fits e size room taken S C part = record {
    shape = record { width = S.shape.width; size = part.size ∙ S.shape.size; symbols = span_symbols m part S.shape.symbols (λ a l. C.symbols a) };
    rows = λ i' l j h.
        ⊎_elim
        (λ g. rw g (equation_same e taken (λ c o. written j c h (omega arith)) (whole.rows j h)))
        (λ g.
        let q : i' * r + r ≤ i * r = chunk_end r i' i (omega arith) in
        equation_same refl (λ c o. refl) (λ c o. part.outside ((i' * r + j) * stride + c) (λ a k f. omega arith)) (S.rows i' (omega arith) j h))
        (eq_or_not i' i);
  }
    where
      whole : Chunk m r s₀ s₁ P (look chunk) r rows
      whole = subst (λ (x : ℕ). Chunk m x s₀ s₁ P (look chunk) x rows) size C

      written : (j c : ℕ) → j < r → c < stride → at t' (i * r + j) c ≡ at rows j c
      written j c h o =
          let f : (i * r + j) * stride + c ≡ i * r * stride + (j * stride + c) = omega arith in
          ap (λ (k : ℕ). get_or t' k 0) f ∙ part.inside (j * stride + c) (omega arith)

  pub system_all : {i n : ℕ} {t : List ℕ} → i ≡ n → System m r s₀ s₁ i points w t → System m r s₀ s₁ n points w t
  system_all {i} {n} {t} h S = subst (λ (k : ℕ). System m r s₀ s₁ k points w t) h S
