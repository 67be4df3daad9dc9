-- Save, load and the panel answer by their lists of checks, and a refused one changes no byte that it was lent. Assumes nothing.
use mathlib.Core.Path.{◌≡◌, refl}
use mathlib.Core.Bool.{cond}
use mathlib.Core.List.{List}
use Prim.Native.Nat.{ℕ}
use Rattle.std.specs.Prelude.{None, Result, Ok, Err}
use Rattle.refusal.specs.declared.Refusal.{Refusal}
use Rattle.refusal.specs.Guards.{first_refused, pass}
use Rattle.trainer.specs.declared.Trainer.{Trainer}
use Rattle.record.specs.Read.{read_of}
use Rattle.record.specs.Calls.{save_order, load_order, save_of, buffer_after, load_of}
use Rattle.panel_lines.specs.Panel.{panel_order, panel_of, out_after}
use Rattle.refusals.specs.Told.{result_told, told_by}
use Rattle.refusals.specs.Gives.{save_gives, panel_gives}
use Rattle.refusals.proofs.Ways.{result_tells, result_number, result_gives}

pub save_number : (t : Trainer) (buf : List ℕ) → (result_told (save_of t buf)).number ≡ first_refused (save_order t buf)
unfolding save_of
save_number t buf = result_number (save_order t buf) _

pub save_gives_lem : (t : Trainer) (buf : List ℕ) → (result_told (save_of t buf)).gives ≡ cond (pass (save_order t buf)) (save_gives t) None
unfolding save_of
save_gives_lem t buf = result_gives (save_order t buf) _

pub load_number : (bytes : List ℕ) → (result_told (load_of bytes)).number ≡ first_refused (load_order bytes)
unfolding load_of
load_number bytes = result_number (load_order bytes) (read_of bytes)

pub panel_told : (input out : List ℕ) → result_told (panel_of input out) ≡ told_by (panel_order input out) (panel_gives input)
unfolding panel_of
panel_told input out = result_tells (panel_order input out) _

-- ---- what a refused call leaves
buffer_keeps : (t : Trainer) (buf : List ℕ) (r : Result ℕ Refusal) → ((result_told r).number ≡ 0 → ⊥) → buffer_after t buf r ≡ buf
unfolding result_told buffer_after
buffer_keeps t buf (Ok n) h = absurd (h refl)
buffer_keeps t buf (Err r) h = refl

pub save_keeps : (t : Trainer) (buf : List ℕ) → ((result_told (save_of t buf)).number ≡ 0 → ⊥) → buffer_after t buf (save_of t buf) ≡ buf
save_keeps t buf = buffer_keeps t buf (save_of t buf)

out_keeps : (input out : List ℕ) (r : Result ℕ Refusal) → ((result_told r).number ≡ 0 → ⊥) → out_after input out r ≡ out
unfolding result_told out_after
out_keeps input out (Ok n) h = absurd (h refl)
out_keeps input out (Err r) h = refl

pub panel_keeps : (input out : List ℕ) → ((result_told (panel_of input out)).number ≡ 0 → ⊥) → out_after input out (panel_of input out) ≡ out
panel_keeps input out = out_keeps input out (panel_of input out)
