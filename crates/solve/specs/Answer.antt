-- What an elimination of the system M answers, with N the matrix that it leaves.
use Rattle.std.specs.Prelude.{ℕ, ◌<◌, ◌^◌, ◌≡◌, Option, Some, None}
use Rattle.solve.specs.System.{Matrix, Solves, free}

-- unknown c is free: the vector that N's column c gives is not zero, and solves M
pub record IsFree (m rows cols : ℕ) (M N : Matrix) (c : ℕ) : Type 0 where
  pub below : c < cols
  pub symbols : (j : ℕ) → free N c j < 2 ^ m
  pub one : free N c c ≡ 1
  pub solves : Solves m M rows cols (free N c)

-- only the zero vector solves M
abbrev pub IsFull : ℕ → ℕ → ℕ → Matrix → Type 0
IsFull m rows cols M = (x : ℕ → ℕ) → ((j : ℕ) → x j < 2 ^ m) → Solves m M rows cols x → (j : ℕ) → j < cols → x j ≡ 0

abbrev pub Answers : ℕ → ℕ → ℕ → Matrix → Matrix → Option ℕ → Type 0
Answers m rows cols M N (Some c) = IsFree m rows cols M N c
Answers m rows cols M N None = IsFull m rows cols M
