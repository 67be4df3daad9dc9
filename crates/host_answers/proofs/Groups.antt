-- Group by group: every trainer on the way is accepted, and the rest of the list answers what the whole list does. Assumes nothing.
use mathlib.Core.Path.{◌≡◌, refl, sym, ap, ◌∙◌}
use mathlib.Core.Bool.{Bool, true, false, cond}
use mathlib.Core.List.{List}
use Prim.Native.Nat.{ℕ, zero, suc, ◌+◌, ◌-◌, ◌*◌, ◌/◌, ◌<◌, ◌≤◌}
use native.Mathlib.Omega.{arith}
use borrow.Author.Tests.{eq-eqb, ne_eqb, le-leb, lt-leb}
use lib.Dec.{eqb, leb}
use lib.ListN.{length, get_or, take, drop, length-drop}
use lib.Seq.{take_all, length-take-le}
use Rattle.std.specs.Prelude.{Result, Ok, Err, IfOk}
use Rattle.std.proofs.lemmas.Result.{IfOk-at_ok}
use Rattle.refusal.specs.declared.Refusal.{Refusal}
use Rattle.refusal.specs.declared.Refusal.TheVariants.{BadLength}
use Rattle.rule_tree.proofs.Lists.{length_tabulate}
use Rattle.trainer.specs.declared.Trainer.{Trainer}
use Rattle.trainer.specs.Calls.{answer_counts_of}
use Rattle.trainer.proofs.Accepting.{Held, counts_held}
use Rattle.record.specs.declared.inner.layout.Layout.{Layout}
use Rattle.record.specs.Layout.{layout_of, given_action}
use Rattle.record.specs.Read.{settings_at, split_count, node_at_place, read_in, version_at}
use Rattle.record.specs.Calls.{load_of}
use Rattle.record.proofs.Loading.{load_again}
use Rattle.record.proofs.BytesFit.{loaded_is}
use Rattle.host_trainer.specs.Records.{counts_in}
use Rattle.host_answers.specs.Answers.{scores_on, group_count, group_size, group_body, group_on, groups_on, answers_in}
use Rattle.host_answers.specs.Parts.{Ready, kind_of, answers_on}
use Rattle.host_answers.specs.declared.inner.groups.Kind.{Kind}
use Rattle.host_answers.specs.declared.inner.groups.Kind.TheVariants.{Counts, Scores}
use Rattle.host_answers.proofs.Scores.{held_from, scores_held}

-- ---- the trainer of a record
read_whole : (lay : Layout) (held : List ℕ) → length (read_in lay held).tree.nodes ≡ 513
read_whole lay held = length_tabulate 513 (node_at_place lay (given_action (settings_at lay held 5)) held (split_count lay held))

pub load_ready : (held : List ℕ) (t : Trainer) {a : Result Trainer Refusal} → a ≡ load_of held → a ≡ Ok t → Ready t
load_ready held t e z =
    let l = sym e ∙ z in
    record {
      accepted = (load_again held t l).accepted;
      whole = ap (λ (x : Trainer). length x.tree.nodes) (sym (loaded_is held t l)) ∙ read_whole (layout_of (version_at held)) held;
    }

-- ---- a group by its kind and its bytes
module _ (bytes : List ℕ) {s : ℕ} (e : s ≡ group_size bytes) where
  pub rest_is : take (length bytes - s) (drop s bytes) ≡ drop (group_size bytes) bytes
  rest_is = take_all (length bytes - s) (drop s bytes) (omega (arith, length-drop s bytes)) ∙ ap (λ (n : ℕ). drop n bytes) e

  pub body_is : take (s - 3) (drop 3 bytes) ≡ group_body bytes
  body_is = ap (λ (n : ℕ). take n (drop 3 bytes)) (let z : s - 3 ≡ 8 * group_count bytes = omega arith in z)

pub group_is : (bytes : List ℕ) (t : Trainer) {kind : Kind} {body : List ℕ} → group_size bytes ≤ length bytes → kind_of (get_or bytes 0 0) ≡ Ok kind → body ≡ group_body bytes
    → answers_on kind body t ≡ group_on bytes t
unfolding group_on answers_on kind_of
group_is bytes t {kind} {body} h k b = rw (b, le-leb (group_size bytes) (length bytes) h) (go (eqb (get_or bytes 0 0) 1) (eqb (get_or bytes 0 0) 2) kind k)
  where
    e : length (group_body bytes) / 8 ≡ group_count bytes
    e = let n = length-take-le (8 * group_count bytes) (drop 3 bytes) (omega (arith, length-drop 3 bytes)) in omega arith

    go : (x y : Bool) (z : Kind) → cond x (Ok Counts) (cond y (Ok Scores) (Err BadLength)) ≡ Ok z
        → answers_on z (group_body bytes) t
        ≡ cond x (answer_counts_of t (counts_in (group_body bytes))) (cond y (scores_on t (group_body bytes) (group_count bytes)) (Err BadLength))
    go true y Counts q = refl
    go true y Scores q = absurd (cc)
    go false true Counts q = absurd (cc)
    go false true Scores q = ap (scores_on t (group_body bytes)) e
    go false false z q = absurd (cc)

pub group_cut : (bytes : List ℕ) (t : Trainer) → length bytes < group_size bytes → group_on bytes t ≡ Err BadLength
unfolding group_on
group_cut bytes t h = rw (lt-leb (group_size bytes) (length bytes) h)

pub group_unknown : (bytes : List ℕ) (t : Trainer) {r : Refusal} → group_size bytes ≤ length bytes → kind_of (get_or bytes 0 0) ≡ Err r → group_on bytes t ≡ Err r
unfolding group_on kind_of
group_unknown bytes t {r} h k = rw (le-leb (group_size bytes) (length bytes) h) (go (eqb (get_or bytes 0 0) 1) (eqb (get_or bytes 0 0) 2) k)
  where
    go : (x y : Bool) → cond x (Ok Counts) (cond y (Ok Scores) (Err BadLength)) ≡ Err r
        → cond x (answer_counts_of t (counts_in (group_body bytes))) (cond y (scores_on t (group_body bytes) (group_count bytes)) (Err BadLength)) ≡ Err r
    go true y q = absurd (cc)
    go false true q = absurd (cc)
    go false false q = cc

-- a group leaves an accepted trainer
group_held : (t : Trainer) (bytes : List ℕ) → Held t → IfOk (group_on bytes t) Held
unfolding group_on
group_held t bytes h = go (leb (group_size bytes) (length bytes)) (eqb (get_or bytes 0 0) 1) (eqb (get_or bytes 0 0) 2)
  where
    go : (a b c : Bool)
        → IfOk
        (cond a
        (cond b (answer_counts_of t (counts_in (group_body bytes)))
        (cond c (scores_on t (group_body bytes) (group_count bytes)) (Err BadLength)))
        (Err BadLength)) Held
    go true true c = counts_held t (counts_in (group_body bytes)) h
    go true false true = scores_held t (group_body bytes) h (group_count bytes)
    go true false false = tt
    go false b c = tt

-- ---- the groups
groups_stay : (fuel : ℕ) (bytes : List ℕ) (r : Refusal) → groups_on fuel bytes (Err r) ≡ Err r
unfolding groups_on
groups_stay zero bytes r = refl
groups_stay (suc fuel) bytes r = go (eqb (length bytes) 0) (groups_stay fuel (drop (group_size bytes) bytes) r)
  where
    go : (b : Bool) → groups_on fuel (drop (group_size bytes) bytes) (Err r) ≡ Err r
        → cond b (Err r) (groups_on fuel (drop (group_size bytes) bytes) (Err r)) ≡ Err r
    go true q = refl
    go false q = q

groups_end : (fuel : ℕ) (bytes : List ℕ) (t : Trainer) → length bytes ≡ 0 → groups_on fuel bytes (Ok t) ≡ Ok t
unfolding groups_on
groups_end zero bytes t e = refl
groups_end (suc fuel) bytes t e = rw (eq-eqb (length bytes) 0 e)

groups_turn : (fuel : ℕ) (bytes : List ℕ) (t : Trainer) → (length bytes ≡ 0 → ⊥)
    → groups_on (suc fuel) bytes (Ok t) ≡ groups_on fuel (drop (group_size bytes) bytes) (group_on bytes t)
unfolding groups_on
groups_turn fuel bytes t n = rw (ne_eqb (length bytes) 0 n)

-- what is left of the list, with enough fuel, answers what the whole list does
pub record Going (held list : List ℕ) (t : Trainer) (rest : List ℕ) : Type 0 where
  pub fuel : ℕ
  pub enough : length rest ≤ fuel
  pub same : groups_on fuel rest (Ok t) ≡ answers_in held list

module _ (held list : List ℕ) where
  pub groups_begin : (t : Trainer) {a : Result Trainer Refusal} → a ≡ load_of held → a ≡ Ok t → Going held list t list
  unfolding answers_in
  groups_begin t e z =
      record { fuel = length list; enough = omega arith; same = ap (groups_on (length list) list) (sym z ∙ e) }

  pub load_refused : (r : Refusal) {a : Result Trainer Refusal} → a ≡ load_of held → a ≡ Err r → Err r ≡ answers_in held list
  unfolding answers_in
  load_refused r e z = sym (groups_stay (length list) list r) ∙ ap (groups_on (length list) list) (sym z ∙ e)

  module _ (t : Trainer) (rest : List ℕ) (g : Going held list t rest) where
    pub groups_done : length rest ≡ 0 → Ok t ≡ answers_in held list
    groups_done z = sym (groups_end g.fuel rest t z) ∙ g.same

    module _ (n : length rest ≡ 0 → ⊥) where
      pub groups_refused : (r : Refusal) → group_on rest t ≡ Err r → Err r ≡ answers_in held list
      groups_refused r e = go g.fuel g.enough g.same
        where
          go : (fuel : ℕ) → length rest ≤ fuel → groups_on fuel rest (Ok t) ≡ answers_in held list → Err r ≡ answers_in held list
          go zero h q = absurd (n (omega arith))
          go (suc f) h q =
              sym (groups_stay f (drop (group_size rest) rest) r) ∙ ap (groups_on f (drop (group_size rest) rest)) (sym e) ∙ sym (groups_turn f rest t n) ∙ q

      module _ (u : Trainer) (e : group_on rest t ≡ Ok u) where
        pub group_ready : Ready t → Ready u
        group_ready y =
            let h = IfOk-at_ok Held e (group_held t rest (held_from t y)) in record { accepted = h.accepted; whole = h.whole }

        pub groups_next : {left : List ℕ} → left ≡ drop (group_size rest) rest → Going held list u left
        groups_next {left} d = go g.fuel g.enough g.same
          where
            go : (fuel : ℕ) → length rest ≤ fuel → groups_on fuel rest (Ok t) ≡ answers_in held list → Going held list u left
            go zero h q = absurd (n (omega arith))
            go (suc f) h q =
                record {
                  fuel = f;
                  enough = omega (arith, ap length d, length-drop (group_size rest) rest);
                  same =
                      ap (λ (x : List ℕ). groups_on f x (Ok u)) d ∙ ap (groups_on f (drop (group_size rest) rest)) (sym e)
                      ∙ sym (groups_turn f rest t n) ∙ q;
                }

      -- the rest is shorter
      pub shorter : {left : List ℕ} → left ≡ drop (group_size rest) rest → length left + 1 ≤ length rest
      shorter d = let z : 1 ≤ length rest = omega (arith, n) in omega (arith, ap length d, length-drop (group_size rest) rest)
