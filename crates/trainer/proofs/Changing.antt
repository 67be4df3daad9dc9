-- New settings leave an accepted trainer accepted, and keep what 02 says that they keep. Assumes nothing.
use mathlib.Core.Path.{◌≡◌, refl, sym, ap, subst, ◌∙◌}
use mathlib.Core.Bool.{Bool, true, false, ◌&&◌, cond}
use Prim.Native.Nat.{ℕ, ◌<◌, ◌≤◌}
use Rattle.std.specs.Prelude.{Ok, Err, IfOk}
use Rattle.refusal.specs.declared.Refusal.TheVariants.{BadSettings, NotGrown, UnfitSettings}
use native.Mathlib.Omega.{arith}
use borrow.Author.Tests.{ne_eqb, eqb-true, eqb-false, leb-true, ltb-true}
use lib.Dec.{T, eqb, leb}
use lib.Ieee.{Float, binary64, to_bits, of_bits, fits}
use Rattle.floats.proofs.Bits.{bits_back}
use Rattle.remy.specs.Cube.{point_equal}
use Rattle.remy.specs.Cube as cube
use Rattle.trainer.specs.declared.settings.Settings.{Settings}
use Rattle.trainer.specs.declared.Trainer.{Trainer}
use Rattle.trainer.specs.Settings.{settings_hold}
use Rattle.trainer.specs.State.{none, stand, at_leaf_of, zero_bits_of, untried_in, untried, idle, leaf_holds, try_holds_of, splitting, tuning, accepted_of}
use Rattle.trainer.specs.Calls.{wants_score}
use Rattle.trainer.specs.Change.{phase_fits, round_fits, settings_fit, changed_to, change_of}
use Rattle.trainer.proofs.Holds.{and_left, and_right}
use Rattle.trainer.proofs.AcceptWays.{by_phase_lem, leaf_is, phase_split, phase_choose}
use Rattle.trainer.proofs.AcceptedFacts.{accepted_phase, asking_leaf, trying_leaf}
use Rattle.trainer.proofs.Accepting.{Sound, Held, held_sound, splitting_parts, stand_one, stand_two, stand_three, leaf_held}
use Rattle.trainer.proofs.SameEnds.{points_through}
use Rattle.trainer.proofs.ChangeWays.{round_tunes, changed_asks, changed_stands}

-- ---- what settings that fit have
pub record Fit (t : Trainer) (s : Settings) : Type 0 where
  pub ends : point_equal t.settings.ends s.ends ≡ true
  pub stage : t.stage ≤ s.rule_splits
  pub phase : phase_fits t.phase ≡ true
  pub round : round_fits t.phase t.round s.optimization_rounds_per_split ≡ true

pub fit_parts : (t : Trainer) (s : Settings) → settings_fit t s ≡ true → Fit t s
unfolding settings_fit
fit_parts t s h =
    let e = point_equal t.settings.ends s.ends in
    let i = leb t.stage s.rule_splits in
    let p = phase_fits t.phase in
    let r = round_fits t.phase t.round s.optimization_rounds_per_split in
    let k = and_right e (i && (p && r)) h in
    let l = and_right i (p && r) k in
    record {
      ends = and_left e (i && (p && r)) h;
      stage = leb-true t.stage s.rule_splits (and_left i (p && r) k);
      phase = and_left p r l;
      round = and_right p r l;
    }

round_below : (p r n : ℕ) → 3 ≤ p → p ≤ 5 → round_fits p r n ≡ true → r < n
round_below p r n a b h = ltb-true r n (round_tunes p r n a b ∙ h)

done_six : (p : ℕ) → p ≡ 6 → phase_fits p ≡ true → ⊥
unfolding phase_fits
done_six p e h = let z : ◌≡◌ {A = ℕ} 0 1 = ap (λ (b : Bool). cond b 1 0) (ap phase_fits (sym e) ∙ h) in omega arith

done_seven : (p : ℕ) → p ≡ 7 → phase_fits p ≡ true → ⊥
unfolding phase_fits
done_seven p e h = let z : ◌≡◌ {A = ℕ} 0 1 = ap (λ (b : Bool). cond b 1 0) (ap phase_fits (sym e) ∙ h) in omega arith

-- ---- a phase by its number
decide : {R : Type 0} (p n : ℕ) → (p ≡ n → R) → ((p ≡ n → ⊥) → R) → R
decide {R} p n f g = go (eqb p n) refl
  where
    go : (b : Bool) → eqb p n ≡ b → R
    go true e = f (eqb-true p n e)
    go false e = g (eqb-false p n e)

no_phase : (p : ℕ) (a b c d e : Bool) → by_phase_lem p a b c d e ≡ true
    → (p ≡ 1 → ⊥) → (p ≡ 2 → ⊥) → (p ≡ 3 → ⊥) → (p ≡ 4 → ⊥) → (p ≡ 5 → ⊥) → (p ≡ 6 → ⊥) → (p ≡ 7 → ⊥) → ⊥
no_phase p a b c d e h n1 n2 n3 n4 n5 n6 n7 =
    let z : ◌≡◌ {A = Bool} false true = rw (ne_eqb p 1 n1, ne_eqb p 2 n2, ne_eqb p 3 n3, ne_eqb p 4 n4, ne_eqb p 5 n5, ne_eqb p 6 n6, ne_eqb p 7 n7) at h in
    let y : ◌≡◌ {A = ℕ} 0 1 = ap (λ (b : Bool). cond b 1 0) z in
    omega arith

splitting_round : (t : Trainer) → splitting t ≡ true → t.round ≡ 0
unfolding splitting
splitting_round t h =
    let i = and_right (leb 1 t.stage) _ h in
    let j = and_right (leb t.stage t.settings.rule_splits) _ i in
    eqb-true t.round 0 (and_left (eqb t.round 0) _ j)

-- ---- accepted
module _ (t : Trainer) (a : Held t) (s : Settings) (h : settings_hold s ≡ true) (f : Fit t s) where
  sound : Sound s t.tree
  sound =
      let g = held_sound t a in
      record { grown = g.grown; box = points_through t.tree.ends t.settings.ends s.ends g.box f.ends; whole = g.whole }

  splits : 1 ≤ t.phase → t.phase < 3 → splitting t ≡ true
  splits l m = phase_split t.phase _ _ _ _ _ l m ∙ accepted_phase t a.accepted

  stands : wants_score t.phase ≡ false → changed_to t s ≡ stand s t.tree t.phase t.stage t.round
  stands w = changed_stands t s w

  asks : wants_score t.phase ≡ true → changed_to t s ≡ at_leaf_of s t.tree t.stage t.round t.leaf
  asks w = changed_asks t s w

  split_held : 1 ≤ t.phase → t.phase < 3 → (p : ℕ) → t.phase ≡ p → wants_score t.phase ≡ false
      → Held (stand s t.tree p t.stage 0) → Held (changed_to t s)
  split_held l m p e w k =
      subst Held
      (sym
      (stands w
      ∙ ap (λ (q : ℕ). stand s t.tree q t.stage t.round) e
      ∙ ap (λ (r : ℕ). stand s t.tree p t.stage r) (splitting_round t (splits l m))))
      k

  later : 1 ≤ t.phase → t.phase < 3 → 1 ≤ t.stage
  later l m = (splitting_parts t (splits l m)).0

  three_held : t.phase ≡ 3 → Held (changed_to t s)
  three_held e =
      subst Held (sym (stands (ap wants_score e) ∙ ap (λ (q : ℕ). stand s t.tree q t.stage t.round) e))
      (stand_three s t.tree h sound t.stage t.round f.stage (round_below t.phase t.round _ (omega arith) (omega arith) f.round))

  at_held : wants_score t.phase ≡ true → 3 ≤ t.phase → t.phase ≤ 5 → leaf_holds t ≡ true → Held (changed_to t s)
  at_held w l m u =
      subst Held (sym (asks w))
      (leaf_held s t.tree h sound t.stage t.round t.leaf f.stage (round_below t.phase t.round _ l m f.round) (leaf_is t ∙ u))

  pub changed_held : Held (changed_to t s)
  changed_held =
      decide t.phase 1
      (λ e. split_held (omega arith) (omega arith) 1 e (ap wants_score e) (stand_one s t.tree h sound t.stage (later (omega arith) (omega arith)) f.stage))
      (λ n1. decide t.phase 2
      (λ e. split_held (omega arith) (omega arith) 2 e (ap wants_score e) (stand_two s t.tree h sound t.stage (later (omega arith) (omega arith)) f.stage))
      (λ n2. decide t.phase 3 three_held
      (λ n3. decide t.phase 4
      (λ e. at_held (ap wants_score e) (omega arith) (omega arith) (and_left (leaf_holds t) (untried t) (asking_leaf t a.accepted e)))
      (λ n4. decide t.phase 5
      (λ e. at_held (ap wants_score e) (omega arith) (omega arith) (and_left (leaf_holds t) (try_holds_of t) (trying_leaf t a.accepted e)))
      (λ n5. decide t.phase 6 (λ e. absurd (done_six t.phase e f.phase))
      (λ n6. decide t.phase 7 (λ e. absurd (done_seven t.phase e f.phase))
      (λ n7. absurd (no_phase t.phase _ _ _ _ _ (accepted_phase t a.accepted) n1 n2 n3 n4 n5 n6 n7))))))))

pub change_held : (t : Trainer) (s : Settings) → Held t → IfOk (change_of t s) Held
unfolding change_of
change_held t s a = go (accepted_of t) (settings_hold s) (settings_fit t s) refl refl
  where
    go : (b c d : Bool) → settings_hold s ≡ c → settings_fit t s ≡ d
        → IfOk (cond b (cond c (cond d (Ok (changed_to t s)) (Err UnfitSettings)) (Err BadSettings)) (Err NotGrown)) Held
    go true true true e f = changed_held t a s e (fit_parts t s f)
    go true true false e f = tt
    go true false d e f = tt
    go false c d e f = tt

-- ---- "keeps tree, stage and round"; "but changes no node"
pub record Kept (t : Trainer) (s : Settings) : Type 0 where
  pub settings : (changed_to t s).settings ≡ s
  pub tree : (changed_to t s).tree ≡ t.tree
  pub stage : (changed_to t s).stage ≡ t.stage
  pub round : (changed_to t s).round ≡ t.round

pub change_keeps : (t : Trainer) (s : Settings) → Kept t s
unfolding changed_to
change_keeps t s = record { settings = new w; tree = same w; stage = late w; round = far w }
  where
    w : Bool
    w = wants_score t.phase

    pick : Bool → Trainer
    pick b = cond b (at_leaf_of s t.tree t.stage t.round t.leaf) (stand s t.tree t.phase t.stage t.round)

    new : (b : Bool) → (pick b).settings ≡ s
    new true = refl
    new false = refl

    same : (b : Bool) → (pick b).tree ≡ t.tree
    same true = refl
    same false = refl

    late : (b : Bool) → (pick b).stage ≡ t.stage
    late true = refl
    late false = refl

    far : (b : Bool) → (pick b).round ≡ t.round
    far true = refl
    far false = refl

-- ---- "other phases stay": the trainer with these settings, no other field moved
abbrev pub with_settings : Trainer → Settings → Trainer
with_settings t s =
    record {
      settings = s;
      tree = t.tree;
      phase = t.phase;
      stage = t.stage;
      round = t.round;
      leaf = t.leaf;
      best = t.best;
      k = t.k;
      kept = t.kept;
      kept_score = t.kept_score;
    }

pub zero_bits : (x : Float) → T (fits binary64 x) → zero_bits_of x ≡ true → x ≡ cube.zero
unfolding of_bits
zero_bits x h e = sym (bits_back x h) ∙ ap (of_bits binary64) (eqb-true (to_bits binary64 x) 0 e)

module _ (t : Trainer) (s : Settings) (b : T (fits binary64 t.best)) (y : T (fits binary64 t.kept_score)) where
  idle_stays : idle t ≡ true → stand s t.tree t.phase t.stage t.round ≡ with_settings t s
  unfolding untried_in
  idle_stays h =
      let u = and_right (eqb t.leaf 0) (untried t) h in
      let v = and_right (zero_bits_of t.best) _ u in
      let w = and_right (eqb t.k 0) _ v in
      sym
      (rebuilt (eqb-true t.leaf 0 (and_left (eqb t.leaf 0) (untried t) h)) (zero_bits t.best b (and_left (zero_bits_of t.best) _ u))
      (eqb-true t.k 0 (and_left (eqb t.k 0) _ v)) (eqb-true t.kept none (and_left (eqb t.kept none) _ w))
      (zero_bits t.kept_score y (and_right (eqb t.kept none) _ w)))
    where
      rebuilt : t.leaf ≡ 0 → t.best ≡ cube.zero → t.k ≡ 0 → t.kept ≡ none → t.kept_score ≡ cube.zero
          → with_settings t s ≡ stand s t.tree t.phase t.stage t.round
      rebuilt el eb ek ej ey = λ i.
          record {
            settings = s;
            tree = t.tree;
            phase = t.phase;
            stage = t.stage;
            round = t.round;
            leaf = el i;
            best = eb i;
            k = ek i;
            kept = ej i;
            kept_score = ey i;
          }

  split_idle : splitting t ≡ true → idle t ≡ true
  unfolding splitting
  split_idle h = and_right (eqb t.round 0) (idle t) (and_right (leb t.stage t.settings.rule_splits) _ (and_right (leb 1 t.stage) _ h))

  pub change_stays : accepted_of t ≡ true → 1 ≤ t.phase → t.phase ≤ 3 → changed_to t s ≡ with_settings t s
  change_stays a l m =
      decide t.phase 3
      (λ e. waits (ap wants_score e) (and_right (tuning t) (idle t) (phase_choose t.phase _ _ _ _ _ e ∙ accepted_phase t a)))
      (λ n. waits early (split_idle (phase_split t.phase _ _ _ _ _ l (below n) ∙ accepted_phase t a)))
    where
      below : (t.phase ≡ 3 → ⊥) → t.phase < 3
      below n = omega (arith, n)

      early : wants_score t.phase ≡ false
      early = rw (ne_eqb t.phase 4 (λ e. absurd (omega arith)), ne_eqb t.phase 5 (λ e. absurd (omega arith)))

      waits : wants_score t.phase ≡ false → idle t ≡ true → changed_to t s ≡ with_settings t s
      waits w i = changed_stands t s w ∙ idle_stays i
