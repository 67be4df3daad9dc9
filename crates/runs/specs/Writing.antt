-- What a writer's methods are held to: words put after those that it holds, as many as the lent slice has room for.
use Rattle.std.specs.Prelude.{◌≡◌, List, ◌++◌, ℕ, ◌+◌, min, length, take, drop}
use Rattle.runs.specs.declared.words.Writer.{Writer}

-- words put from place at on, as many as fit
abbrev pub put_words : List ℕ → ℕ → List ℕ → List ℕ
put_words out at words = take (length out) (take at out ++ (words ++ drop (at + length words) out))

abbrev pub place_after : List ℕ → ℕ → List ℕ → ℕ
place_after out at words = min (at + length words) (length out)

-- words put from place at on, the place after them, and the slice then
pub record Puts (out : List ℕ) (at : ℕ) (words : List ℕ) (next : ℕ) (after : List ℕ) : Type 0 where
  pub place : next ≡ place_after out at words
  pub laid : after ≡ put_words out at words

-- a writer after words were put, over the same slice
pub record Appends (w : Writer) (words : List ℕ) (v : Writer) : Type 0 where
  pub same : v.out.ghost_name ≡ w.out.ghost_name
  pub puts : Puts w.out.now w.at words v.at v.out.now
