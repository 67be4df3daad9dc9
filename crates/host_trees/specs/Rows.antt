-- 02, request 13, for hosts: "Which row holds a point".
use Rattle.std.specs.Prelude.{List, [], ◌∷◌, ℕ, length, eqb, Result, Ok}
use Rattle.std.specs.Option.{unwrap_or}
use Rattle.refusal.specs.declared.Refusal.{Refusal}
use Rattle.refusal.specs.declared.Refusal.TheVariants.{BadLength}
use Rattle.refusal.specs.Guards.{check, checked}
use Rattle.wire.specs.Fields.{point_at}
use Rattle.even.specs.Even.{row_of}

-- the row's number, 64 for none; a point of another length than 24: 6
unfoldable pub even_row_in : List ℕ → Result ℕ Refusal
even_row_in point = checked (check (eqb (length point) 24) BadLength ∷ []) (Ok (unwrap_or (row_of (point_at point 0)) 64))
