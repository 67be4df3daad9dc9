-- The first child that a list of splits gives each node, and which nodes are parents. Assumes nothing.
use mathlib.Core.Path.{◌≡◌, refl, sym, ap}
use mathlib.Core.Bool.{Bool, true, false, ◌||◌, cond}
use mathlib.Core.Logic.{◌≢◌}
use mathlib.Core.List.{List, [], ◌∷◌, ◌++◌}
use Prim.Native.Nat.{ℕ, zero, suc, ◌+◌, ◌*◌, ◌<◌}
use native.Mathlib.Omega.{arith}
use borrow.Author.Tests.{eq-eqb, ne_eqb, eqb-true}
use lib.Dec.{eqb}
use lib.ListN.{length, get_or, take}
use Rattle.std.proofs.lemmas.Bool.{or_parts, or_right}
use Rattle.promise.specs.PlainTree.{member}

-- the first child that the splits, the first of which is split number k, give node i; 0 for a leaf
unfoldable pub link : ℕ → List ℕ → ℕ → ℕ
link k [] i = 0
link k (p ∷ ps) i = cond (eqb p i) (8 * k + 1) (link (suc k) ps i)

pub link_leaf : (k : ℕ) (ps : List ℕ) (i : ℕ) → member i ps ≡ false → link k ps i ≡ 0
unfolding link member
link_leaf k [] i h = refl
link_leaf k (p ∷ ps) i h = let q = or_parts (eqb p i) (member i ps) h in rw q.0 (link_leaf (suc k) ps i q.1)

-- the split that made node i a parent
pub record Owner (k : ℕ) (ps : List ℕ) (i : ℕ) : Type 0 where
  pub at : ℕ
  pub below : at < length ps
  pub is : get_or ps at 0 ≡ i
  pub gives : link k ps i ≡ 8 * (k + at) + 1

pub link_owner : (k : ℕ) (ps : List ℕ) (i : ℕ) → member i ps ≡ true → Owner k ps i
unfolding link member
link_owner k [] i h = cc
link_owner k (p ∷ ps) i h = go (eqb p i) refl h (link_owner (suc k) ps i)
  where
    go : (b : Bool) → eqb p i ≡ b → b || member i ps ≡ true → (member i ps ≡ true → Owner (suc k) ps i) → Owner k (p ∷ ps) i
    go true e h r = record { at = 0; below = omega arith; is = eqb-true p i e; gives = rw e (omega arith) }
    go false e h r =
        let o = r h in
        record { at = suc o.at; below = omega (arith, o.below); is = o.is; gives = rw e (omega (arith, o.gives)) }

pub link_at : (k : ℕ) (ps : List ℕ) (m : ℕ) → m < length ps → member (get_or ps m 0) (take m ps) ≡ false → link k ps (get_or ps m 0) ≡ 8 * (k + m) + 1
unfolding link member
link_at k [] m l h = absurd (omega arith)
link_at k (p ∷ ps) zero l h = rw (eq-eqb p p refl) (omega arith)
link_at k (p ∷ ps) (suc m) l h =
    let q = or_parts (eqb p (get_or ps m 0)) (member (get_or ps m 0) (take m ps)) h in
    rw q.0 (omega (arith, link_at (suc k) ps m (omega arith) q.1))

-- ---- one split more
pub link_old : (k : ℕ) (ps : List ℕ) (q i : ℕ) → i ≢ q → link k (ps ++ (q ∷ [])) i ≡ link k ps i
unfolding link
link_old k [] q i n = rw (ne_eqb q i (λ e. n (sym e)))
link_old k (p ∷ ps) q i n = ap (λ (c : ℕ). cond (eqb p i) (8 * k + 1) c) (link_old (suc k) ps q i n)

pub link_new : (k : ℕ) (ps : List ℕ) (q : ℕ) → member q ps ≡ false → link k (ps ++ (q ∷ [])) q ≡ 8 * (k + length ps) + 1
unfolding link member
link_new k [] q h = rw (eq-eqb q q refl) (omega arith)
link_new k (p ∷ ps) q h =
    let o = or_parts (eqb p q) (member q ps) h in rw o.0 (omega (arith, link_new (suc k) ps q o.1))

pub member_old : (ps : List ℕ) (q i : ℕ) → i ≢ q → member i (ps ++ (q ∷ [])) ≡ member i ps
unfolding member
member_old [] q i n = rw (ne_eqb q i (λ e. n (sym e)))
member_old (p ∷ ps) q i n = ap (λ (b : Bool). eqb p i || b) (member_old ps q i n)

pub member_new : (ps : List ℕ) (q : ℕ) → member q (ps ++ (q ∷ [])) ≡ true
unfolding member
member_new [] q = rw (eq-eqb q q refl)
member_new (p ∷ ps) q = or_right (eqb p q) (member q (ps ++ (q ∷ []))) (member_new ps q)
