-- What a split list is in bytes, read and written. Assumes nothing.
use mathlib.Core.Path.{◌≡◌, refl}
use mathlib.Core.List.{List, [], ◌∷◌}
use mathlib.Core.Logic.{⊎_elim}
use Prim.Native.Nat.{ℕ, zero, suc, ◌+◌, ◌<◌, ◌≤◌}
use native.Mathlib.Omega.{arith}
use lib.ListN.{length, get_or, take}
use lib.Seq.{sets}
use Rattle.std.specs.Prelude.{Err}
use Rattle.refusal.specs.declared.Refusal.TheVariants.{NoSplitList}
use Rattle.rule_tree.proofs.Owners.{below_or_not}
use Rattle.wire.specs.Bytes.{bytes_of, shorts_bytes, number_at}
use Rattle.wire.proofs.Bytes.{bytes_count}
use Rattle.wire.proofs.Stores.{wrote}
use Rattle.small_trees.specs.Calls.{next_of}
use Rattle.small_trees.proofs.Tables.{next_above}
use Rattle.small_trees.proofs.Growing.{growth_short}
use Rattle.small_trees.proofs.Ways.{refused}
use Rattle.host_trees.specs.Lists.{nodes_from, list_at_of, list_bytes}

-- ---- what is read
nodes_count : (k at : ℕ) (bytes : List ℕ) → length (nodes_from k at bytes) ≡ k
unfolding nodes_from
nodes_count zero at bytes = refl
nodes_count (suc k) at bytes = let e = nodes_count k (at + 2) bytes in omega arith

pub long_list : (n : ℕ) (bytes : List ℕ) → 3 < get_or bytes 0 0 → next_of n (nodes_from (get_or bytes 0 0) 1 bytes) ≡ Err NoSplitList
long_list n bytes l =
    let z : length (list_at_of bytes) ≡ get_or bytes 0 0 = nodes_count (get_or bytes 0 0) 1 bytes in
    ⊎_elim (λ (m : n < 4). refused n (list_at_of bytes) (λ h. absurd (let q = growth_short n (list_at_of bytes) h in omega arith)))
    (λ (m : 4 ≤ n). next_above n (list_at_of bytes) (omega arith))
    (below_or_not n 4)

pub nodes_read : (bytes : List ℕ) (k : ℕ) → k ≤ 3 → nodes_from k 1 bytes ≡ take k (number_at bytes 1 2 ∷ number_at bytes 3 2 ∷ number_at bytes 5 2 ∷ [])
unfolding nodes_from
nodes_read bytes zero l = refl
nodes_read bytes (suc zero) l = refl
nodes_read bytes (suc (suc zero)) l = refl
nodes_read bytes (suc (suc (suc zero))) l = refl
nodes_read bytes (suc (suc (suc (suc k)))) l = absurd (omega arith)

-- ---- what is written: the length, and then the nodes
pub list_written : (l xs : List ℕ) {m r : List ℕ} → m ≡ sets l 0 (bytes_of 1 (length xs)) → r ≡ sets m 1 (shorts_bytes xs) → r ≡ sets l 0 (list_bytes xs)
list_written l xs {m} p q = wrote l m 0 1 (bytes_of 1 (length xs)) (shorts_bytes xs) q p (bytes_count 1 (length xs))
