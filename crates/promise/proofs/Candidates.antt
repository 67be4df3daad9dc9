-- The plain trainer's candidates are the trainer's, at most 4,096 and all of them valid. Assumes nothing.
use mathlib.Core.Path.{◌≡◌, refl, sym, ap, ◌∙◌}
use mathlib.Core.Bool.{Bool, true, false, cond}
use mathlib.Core.List.{List, [], ◌∷◌, map, flat_map}
use Prim.Native.Nat.{ℕ, zero, suc, ◌<◌, ◌≤◌}
use native.Mathlib.Omega.{arith}
use borrow.Author.Tests.{leb-true}
use lib.Dec.{leb}
use lib.ListN.{length, get_or}
use lib.IntN.{ℤ, pos, ◌+ℤ◌, ◌*ℤ◌}
use lib.Signed.{le_z}
use lib.Ieee.{Float, binary64, mul, le, of_int}
use Rattle.std.proofs.lemmas.Bool.{and_parts}
use Rattle.remy.specs.declared.action.Action.{Action}
use Rattle.remy.specs.Action.{action_of, valid_of}
use Rattle.trainer.specs.declared.settings.Settings.{Settings}
use Rattle.trainer.specs.Settings.{numbers_hold, actions_hold, axes_hold, settings_hold}
use Rattle.trainer.specs.Settings as theirs
use Rattle.trainer.specs.Candidates.{filter, candidates_of}
use Rattle.trainer.specs.Candidates as those
use Rattle.trainer.specs.Axes.{multiplier_sums, increment_sums, delay_sums}
use Rattle.trainer.proofs.Lists.{get_d_any}
use Rattle.trainer.proofs.Product as its
use Rattle.trainer.proofs.Holds.{parts}
use Rattle.trainer.proofs.AcceptedFacts.{few_splits, few_rounds}
use Rattle.trainer.proofs.CandidateLaws as laws
use Rattle.promise.specs.PlainCandidates as plain
use Rattle.promise.specs.PlainCandidates.{improvements, no_candidate}

-- ---- the same lists
axis_lem : {A : Type 0} (at_most : A → A → Bool) (times : A → A) (n : ℕ) (x max : A)
    → plain.while (λ (v : A). at_most v max) (plain.growing n times x) ≡ theirs.axis at_most times n x max
unfolding plain.while plain.growing theirs.axis
axis_lem at_most times zero x max = refl
axis_lem {A} at_most times (suc n) x max = ap (λ (vs : List A). cond (at_most x max) (x ∷ vs) []) (axis_lem at_most times n (times x) max)

pub float_axis_lem : (n : ℕ) (t x max : Float) → plain.while (λ (v : Float). le v max) (plain.growing n (mul binary64 t) x) ≡ theirs.float_axis n t x max
float_axis_lem n t x max = axis_lem le (mul binary64 t) n x max

pub whole_axis_lem : (n : ℕ) (t x max : ℤ) → plain.while (λ (v : ℤ). le_z v max) (plain.growing n (◌*ℤ◌ t) x) ≡ theirs.whole_axis n t x max
whole_axis_lem n t x max = axis_lem le_z (◌*ℤ◌ t) n x max

same_flat : {A B : Type 0} (f g : A → List B) → ((x : A) → f x ≡ g x) → (xs : List A) → flat_map f xs ≡ those.flat_map g xs
unfolding flat_map those.flat_map
same_flat f g h [] = refl
same_flat f g h (x ∷ xs) = rw (h x, same_flat f g h xs)

same_those : {A : Type 0} (keep : A → Bool) (xs : List A) → plain.those keep xs ≡ filter keep xs
unfolding plain.those filter
same_those keep [] = refl
same_those keep (x ∷ xs) = rw (same_those keep xs)

-- the sums that are kept of an axis
same_sums :
    {A : Type 0} (keep : A → Bool) (sum minus : A → A) (xs ys : List A) → xs ≡ ys
    → plain.those keep (map sum (plain.in_turn minus xs)) ≡ filter keep (map sum (those.flat_map (λ (v : A). v ∷ minus v ∷ []) ys))
same_sums {A} keep sum minus xs ys e =
    same_those keep (map sum (plain.in_turn minus xs))
    ∙ ap (λ (vs : List A). filter keep (map sum vs))
    (ap (plain.in_turn minus) e ∙ same_flat (λ (v : A). v ∷ (minus v ∷ [])) (λ (v : A). v ∷ minus v ∷ []) (λ v. refl) ys)

module _ (s : Settings) (a : Action) where
  same_multipliers : plain.float_sums plain.multiplier_of s a ≡ multiplier_sums s a
  same_multipliers = same_sums _ _ _ _ _ (float_axis_lem 8 _ _ _)

  same_increments : plain.whole_sums plain.increment_of s a ≡ increment_sums s a
  same_increments =
      same_sums _ (◌+ℤ◌ (plain.increment_of a)) _ _ _
      (whole_axis_lem 8 (pos s.action_change_multiplier) (plain.increment_of s.initial_action_change) (plain.increment_of s.max_action_change))

  same_delays : plain.float_sums plain.delay_of s a ≡ delay_sums s a
  same_delays = same_sums _ _ _ _ _ (float_axis_lem 8 _ _ _)

  same-product :
      (ms : List Float) (is : List ℤ) (ds : List Float)
      → flat_map (λ (m : Float). flat_map (λ (i : ℤ). map (λ (d : Float). action_of m i d) ds) is) ms ≡ its.product ms is ds
  same-product ms is ds = same_flat _ (its.plane is ds) (λ m. same_flat _ (its.row ds m) (λ i. refl) is) ms

  -- the plain trainer's candidates are the trainer's, for any settings and any action
  pub candidates_same : improvements s a ≡ candidates_of s a
  unfolding improvements
  candidates_same =
      same-product (plain.float_sums plain.multiplier_of s a) (plain.whole_sums plain.increment_of s a) (plain.float_sums plain.delay_of s a)
      ∙ rw (same_multipliers, same_increments, same_delays) (sym (its.candidates_are s a))

  pub candidates_few : length (improvements s a) ≤ 4096
  candidates_few = rw candidates_same (laws.candidates_few s a)

  module _ (j : ℕ) (l : j < length (improvements s a)) where
    listed : j < length (candidates_of s a)
    listed = rw candidates_same at l

    pub candidate_same : get_or (candidates_of s a) j those.no_candidate ≡ get_or (improvements s a) j no_candidate
    candidate_same = get_d_any (candidates_of s a) j those.no_candidate no_candidate listed ∙ sym (ap (λ (xs : List Action). get_or xs j no_candidate) candidates_same)

    pub candidate_valid : settings_hold s ≡ true → valid_of (get_or (improvements s a) j no_candidate) ≡ true
    candidate_valid h = rw candidates_same (laws.candidate_valid s a j no_candidate h listed)

-- ---- "more than 8 values is refused": an axis of settings that hold has no more than its first 8
enough :
    {A : Type 0} (test : A → Bool) (times : A → A) (m n : ℕ) (x : A) → m ≤ n → length (plain.while test (plain.growing (suc m) times x)) ≤ m
    → plain.while test (plain.growing n times x) ≡ plain.while test (plain.growing m times x)
unfolding plain.while plain.growing
enough test times zero zero x h l = refl
enough test times zero (suc n) x h l = go (test x) l
  where
    go : (b : Bool) → length (cond b (x ∷ []) []) ≤ 0 → cond b (x ∷ plain.while test (plain.growing n times (times x))) [] ≡ []
    go true l = absurd (omega arith)
    go false l = refl
enough test times (suc m) zero x h l = absurd (omega arith)
enough {A} test times (suc m) (suc n) x h l = go (test x) (λ r. enough test times m n (times x) (omega arith) r) l
  where
    rest : ℕ → List A
    rest k = plain.while test (plain.growing k times (times x))

    go :
        (b : Bool) → (length (rest (suc m)) ≤ m → rest n ≡ rest m) → length (cond b (x ∷ rest (suc m)) []) ≤ suc m
        → cond b (x ∷ rest n) [] ≡ cond b (x ∷ rest m) []
    go true f l = ap (λ (vs : List A). x ∷ vs) (f (omega arith))
    go false f l = refl

module _ (s : Settings) (h : settings_hold s ≡ true) (n : ℕ) (m : 8 ≤ n) where
  axes-few :
      (length (theirs.multiplier_axis 9 s) ≤ 8) × ((length (theirs.increment_axis 9 s) ≤ 8) × (length (theirs.delay_axis 9 s) ≤ 8))
  unfolding axes_hold
  axes-few =
      let all = (parts s h).3 in
      let q = and_parts (leb (length (theirs.multiplier_axis 9 s)) 8) _ all in
      let r = and_parts (leb (length (theirs.increment_axis 9 s)) 8) _ q.1 in
      (leb-true _ 8 q.0, (leb-true _ 8 r.0, leb-true _ 8 r.1))

  float-whole :
      (part : Action → Float) → let t = of_int binary64 (pos s.action_change_multiplier) in
      length (theirs.float_axis 9 t (part s.initial_action_change) (part s.max_action_change)) ≤ 8 → plain.float_axis n part s ≡ plain.float_axis 8 part s
  float-whole part l =
      let t = of_int binary64 (pos s.action_change_multiplier) in
      enough (λ (v : Float). le v (part s.max_action_change)) (mul binary64 t) 8 n (part s.initial_action_change) m
      (rw (float_axis_lem 9 t (part s.initial_action_change) (part s.max_action_change)) l)

  pub axes_whole :
      (plain.float_axis n plain.multiplier_of s ≡ plain.float_axis 8 plain.multiplier_of s)
      × ((plain.whole_axis n plain.increment_of s ≡ plain.whole_axis 8 plain.increment_of s)
      × (plain.float_axis n plain.delay_of s ≡ plain.float_axis 8 plain.delay_of s))
  axes_whole =
      let first = s.initial_action_change.window_increment in
      let most = s.max_action_change.window_increment in (
        float-whole plain.multiplier_of axes-few.0,
        (
          enough (λ (v : ℤ). le_z v most) (◌*ℤ◌ (pos s.action_change_multiplier)) 8 n first m (rw (whole_axis_lem 9 (pos s.action_change_multiplier) first most) axes-few.1.0),
          float-whole plain.delay_of axes-few.1.1,
        ),
      )

-- ---- settings that hold
-- what settings that are taken hold
pub record Held (s : Settings) : Type 0 where
  pub splits : s.rule_splits ≤ 64
  pub rounds : s.optimization_rounds_per_split ≤ 1000
  pub multiplier : s.action_change_multiplier ≤ 16
  pub least : valid_of s.min_action ≡ true
  pub most : valid_of s.max_action ≡ true
  pub initial : valid_of s.initial_action_change ≡ true
  pub largest : valid_of s.max_action_change ≡ true
  pub default : valid_of s.default_action ≡ true

pub settings_facts : (s : Settings) → settings_hold s ≡ true → Held s
unfolding numbers_hold actions_hold
settings_facts s h =
    let numbers = (parts s h).0 in
    let round = and_parts (leb s.rule_splits 64) _ numbers in
    let multiplier = and_parts (leb s.optimization_rounds_per_split 1000) _ round.1 in
    let most = and_parts (leb 2 s.action_change_multiplier) _ multiplier.1 in
    let least = and_parts (valid_of s.min_action) _ (parts s h).1 in
    let changes = and_parts (valid_of s.max_action) _ least.1 in
    let largest = and_parts (valid_of s.initial_action_change) _ changes.1 in
    let default = and_parts (valid_of s.max_action_change) _ largest.1 in
    record {
      splits = few_splits s h;
      rounds = few_rounds s h;
      multiplier = leb-true s.action_change_multiplier 16 most.1;
      least = least.0;
      most = changes.0;
      initial = largest.0;
      largest = default.0;
      default = default.1;
    }

pub default_valid : (s : Settings) → settings_hold s ≡ true → valid_of s.default_action ≡ true
default_valid s h = (settings_facts s h).default
