-- A list of counts out of its bytes. Assumes nothing.
use mathlib.Core.Path.{◌≡◌, refl, sym, ap, ◌∙◌}
use mathlib.Core.Bool.{Bool, true, false, ◌&&◌, cond}
use mathlib.Core.List.{List, []}
use Prim.Native.Nat.{ℕ, ◌*◌, ◌/◌, ◌%◌, ◌<◌, ◌≤◌}
use native.Mathlib.Omega.{arith}
use borrow.Author.Tests.{leb-true, eq-eqb, le-leb}
use lib.Dec.{eqb, leb}
use lib.ListN.{length, get_or, take}
use Rattle.rule_tree.specs.Lists.{tabulate}
use Rattle.rule_tree.proofs.Lists.{take_tabulate}
use Rattle.rule_tree.proofs.Plain.{and_r}
use Rattle.wire.specs.Bytes.{number_at}
use Rattle.std.specs.Prelude.{Ok}
use Rattle.trainer.specs.declared.settings.Settings.{Settings}
use Rattle.host_trainer.specs.Records.{counts_in, settings_whole, settings_in, settings_of}
use Rattle.host_trainer.specs.Parts.{count_of}

-- ---- how many
count_some : (b : Bool) (n m : ℕ) → (b ≡ true → n ≤ m) → cond b n 0 ≤ m
count_some true n m h = h refl
count_some false n m h = omega arith

pub count_few : (bytes : List ℕ) → count_of bytes ≤ 513
unfolding count_of
count_few bytes =
    count_some (eqb (length bytes % 8) 0 && leb (length bytes) 4104) (length bytes / 8) 513
    (λ h. let l = leb-true (length bytes) 4104 (and_r (eqb (length bytes % 8) 0) (leb (length bytes) 4104) h) in omega arith)

-- ---- the counts
abbrev pub count_at : List ℕ → ℕ → ℕ
count_at bytes i = number_at bytes (8 * i) 8

tabulate_some : (b : Bool) (n : ℕ) (f : ℕ → ℕ) → tabulate (cond b n 0) f ≡ cond b (tabulate n f) []
unfolding tabulate
tabulate_some true n f = refl
tabulate_some false n f = refl

-- the first n counts are lent
pub counts_lent : (bytes list : List ℕ) {n : ℕ} → n ≡ count_of bytes → n ≤ length list → ((k : ℕ) → k < n → get_or list k 0 ≡ count_at bytes k)
    → take n list ≡ counts_in bytes
unfolding count_of counts_in
counts_lent bytes list {n} e l p =
    take_tabulate n (count_at bytes) list 0 l p ∙ ap (λ (k : ℕ). tabulate k (count_at bytes)) e
    ∙ tabulate_some (eqb (length bytes % 8) 0 && leb (length bytes) 4104) (length bytes / 8) (count_at bytes)

-- ---- settings
pub settings_read : (bytes : List ℕ) {b : ℕ} {s : Settings} → length bytes ≡ 137 → b ≡ get_or bytes 12 0 → b ≤ 1 → s ≡ settings_in bytes → Ok s ≡ settings_of bytes
unfolding settings_of settings_whole
settings_read bytes {b} long e l p =
    let d : leb (get_or bytes 12 0) 1 ≡ true = ap (λ (k : ℕ). leb k 1) (sym e) ∙ le-leb b 1 l in
    rw (eq-eqb (length bytes) 137 long, d) (ap (λ (z : Settings). Ok z) p)
