-- What a host gets back: a value, or 2^63 plus the number of a refusal.
use Rattle.std.specs.Prelude.{ℕ, ◌+◌, Result, Ok, Err}
use Rattle.refusal.specs.declared.Refusal.{Refusal}
use Rattle.refusal.specs.Numbers.{number_of}

abbrev pub refusal : Refusal → ℕ
refusal r = 9223372036854775808 + number_of r

unfoldable pub answer_of : Result ℕ Refusal → ℕ
answer_of (Ok n) = n
answer_of (Err r) = refusal r
