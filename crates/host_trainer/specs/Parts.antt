-- What the private functions of the code are held to.
use Rattle.std.specs.Prelude.{◌&&◌, cond, List, ℕ, ◌/◌, ◌%◌, length, eqb, leb}
use Rattle.host_trainer.specs.declared.inner.questions.Kind.{Kind}
use Rattle.host_trainer.specs.declared.inner.questions.Kind.TheVariants.{Counts, Score, Done}

-- the byte of a question's kind
abbrev pub kind_byte : Kind → ℕ
kind_byte Counts = 1
kind_byte Score = 2
kind_byte Done = 3

-- how many counts a list of counts has: none where it is cut, or longer than any tree's
unfoldable pub count_of : List ℕ → ℕ
count_of bytes = cond (eqb (length bytes % 8) 0 && leb (length bytes) 4104) (length bytes / 8) 0
