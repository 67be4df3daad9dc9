-- The list of candidates is the product of the three axes' kept sums; its length, and its element k. Assumes nothing.
use mathlib.Core.Path.{◌≡◌, refl, sym, ap, ◌∙◌}
use mathlib.Core.Bool.{Bool, true, false, ◌&&◌, cond}
use mathlib.Core.List.{List, [], ◌∷◌, map}
use Prim.Native.Nat.{ℕ, zero, suc, ◌*◌, ◌/◌, ◌%◌, ◌<◌}
use native.Mathlib.Omega.{arith}
use native.Mathlib.Nat.{mod-lt, mul-zero}
use lib.ListN.{length, get_or, length-map, get_or-map}
use lib.IntN.{ℤ, pos, ◌+ℤ◌}
use lib.Signed.{le_z}
use lib.Ieee.{Float, nan, binary64, add, le}
use Rattle.remy.specs.declared.action.Action.{Action}
use Rattle.remy.specs.Action.{action_of}
use Rattle.trainer.specs.declared.settings.Settings.{Settings}
use Rattle.trainer.specs.Candidates.{flat_map, filter, inside_of, candidates_of}
use Rattle.trainer.specs.Settings.{multiplier_axis, increment_axis, delay_axis}
use Rattle.trainer.specs.Candidates.{float_changes, whole_changes}
use Rattle.trainer.specs.Axes.{within, multiplier_sums, increment_sums, delay_sums}
use Rattle.trainer.proofs.Lists.{by_axis, map_flat, flat_length, flat_at, get_d_any}

abbrev pub row : List Float → Float → ℤ → List Action
row ds m i = map (action_of m i) ds

abbrev pub plane : List ℤ → List Float → Float → List Action
plane is ds m = flat_map (row ds m) is

abbrev pub product : List Float → List ℤ → List Float → List Action
product ms is ds = flat_map (plane is ds) ms

-- ---- length and elements
pub some : (k a b : ℕ) → k < a * b → 0 < b
some k a zero h = absurd (none k (omega (arith, mul-zero a)))
  where
    none : (k : ℕ) → k < 0 → ⊥
    none k h = omega arith
some k a (suc b) h = omega arith

module _ (ds : List Float) where
  row_length : (m : Float) (i : ℤ) → length (row ds m i) ≡ length ds
  row_length m i = length-map ds (action_of m i)

  plane_length : (is : List ℤ) (m : Float) → length (plane is ds m) ≡ length is * length ds
  plane_length is m = flat_length (row ds m) (length ds) (row_length m) is

  pub product_length : (ms : List Float) (is : List ℤ) → length (product ms is ds) ≡ length ms * (length is * length ds)
  product_length ms is = flat_length (plane is ds) (length is * length ds) (plane_length is) ms

  row_at : (m : Float) (i : ℤ) (k : ℕ) (d : Action) → k < length ds → get_or (row ds m i) k d ≡ action_of m i (get_or ds k nan)
  row_at m i k d h =
      get_d_any (row ds m i) k d (action_of m i nan) (rw (row_length m i) h) ∙ get_or-map (action_of m i) ds k nan

  plane_at : (is : List ℤ) (m : Float) (k : ℕ) (d : Action) → k < length is * length ds
      → get_or (plane is ds m) k d ≡ action_of m (get_or is (k / length ds) (pos 0)) (get_or ds (k % length ds) nan)
  plane_at is m k d h =
      flat_at (row ds m) (length ds) (row_length m) is k d (pos 0) h
      ∙ row_at m (get_or is (k / length ds) (pos 0)) (k % length ds) d (mod-lt k (some k (length is) (length ds) h))

  pub product_at : (ms : List Float) (is : List ℤ) (k : ℕ) (d : Action) → k < length ms * (length is * length ds)
      → get_or (product ms is ds) k d
      ≡ action_of (get_or ms (k / (length is * length ds)) nan) (get_or is (k % (length is * length ds) / length ds) (pos 0))
      (get_or ds (k % (length is * length ds) % length ds) nan)
  product_at ms is k d h =
      flat_at (plane is ds) (length is * length ds) (plane_length is) ms k d nan h
      ∙ plane_at is (get_or ms (k / (length is * length ds)) nan) (k % (length is * length ds)) d
      (mod-lt k (some k (length ms) (length is * length ds) h))

-- ---- a test that goes by axis, with the sums f, g and h of the three axes
and_assoc : (a b c : Bool) → (a && (b && c)) ≡ ((a && b) && c)
and_assoc true b c = refl
and_assoc false b c = refl

module _ (keep : Action → Bool) (km : Float → Bool) (ki : ℤ → Bool) (kd : Float → Bool) (f : Float → Float) (g : ℤ → ℤ) (h : Float → Float)
    (parts : (m : Float) (i : ℤ) (d : Float) → keep (action_of m i d) ≡ (km m && (ki i && kd d))) (ds : List Float) where
  in_row : (m : Float) (i : ℤ)
      → filter keep (map (λ (d : Float). action_of m i (h d)) ds) ≡ cond (km m && ki i) (row (filter kd (map h ds)) m i) []
  unfolding filter
  in_row m i =
      ap (filter keep) (map_flat (λ (d : Float). action_of m i (h d)) ds)
      ∙ by_axis keep kd h (λ (d : Float). action_of m i (h d) ∷ []) (λ (d : Float). action_of m i d ∷ []) (km m && ki i)
      (λ d. ap (λ (b : Bool). cond b (action_of m i (h d) ∷ []) []) (parts m i (h d) ∙ and_assoc (km m) (ki i) (kd (h d)))) ds
      ∙ ap (λ (l : List Action). cond (km m && ki i) l []) (sym (map_flat (action_of m i) (filter kd (map h ds))))

  in_plane : (is : List ℤ) (m : Float)
      → filter keep (flat_map (λ (i : ℤ). map (λ (d : Float). action_of m (g i) (h d)) ds) is)
      ≡ cond (km m) (plane (filter ki (map g is)) (filter kd (map h ds)) m) []
  in_plane is m =
      by_axis keep ki g (λ (i : ℤ). map (λ (d : Float). action_of m (g i) (h d)) ds) (row (filter kd (map h ds)) m) (km m)
      (λ i. in_row m (g i)) is

  in_product : (ms : List Float) (is : List ℤ)
      → filter keep (flat_map (λ (m : Float). flat_map (λ (i : ℤ). map (λ (d : Float). action_of (f m) (g i) (h d)) ds) is) ms)
      ≡ product (filter km (map f ms)) (filter ki (map g is)) (filter kd (map h ds))
  in_product ms is =
      by_axis keep km f (λ (m : Float). flat_map (λ (i : ℤ). map (λ (d : Float). action_of (f m) (g i) (h d)) ds) is)
      (plane (filter ki (map g is)) (filter kd (map h ds))) true (λ m. in_plane is (f m)) ms

pub candidates_are : (s : Settings) (a : Action)
    → candidates_of s a ≡ product (multiplier_sums s a) (increment_sums s a) (delay_sums s a)
unfolding candidates_of inside_of
candidates_are s a =
    in_product (inside_of s) (within le s.min_action.window_multiplier s.max_action.window_multiplier)
    (within le_z s.min_action.window_increment s.max_action.window_increment)
    (within le s.min_action.intersend_delay.0 s.max_action.intersend_delay.0)
    (add binary64 a.window_multiplier) (◌+ℤ◌ a.window_increment) (add binary64 a.intersend_delay.0)
    (λ m i d. refl) (float_changes (delay_axis 8 s)) (float_changes (multiplier_axis 8 s)) (whole_changes (increment_axis 8 s))
