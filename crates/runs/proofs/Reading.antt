-- A script read by place, the calls of each code, and the list of calls that a script holds. Assumes nothing.
use mathlib.Core.Path.{◌≡◌, refl, sym, ap, ◌∙◌}
use mathlib.Core.Bool.{Bool, true, false, not, cond, and-false}
use mathlib.Core.List.{List, [], ◌∷◌}
use Prim.Native.Nat.{ℕ, zero, suc, ◌+◌, ◌<◌, ◌≤◌}
use native.Mathlib.Nat.{add-zero, add_assoc}
use native.Mathlib.Omega.{arith}
use borrow.Author.Tests.{ltb-true, leb-true, lt-ltb, le-leb, lt-leb, ne_eqb}
use lib.Dec.{eqb, ltb, leb}
use lib.Ieee.{Float}
use Rattle.std.specs.Prelude.{Option, Some, None}
use Rattle.std.specs.Option.{option_map}
use Rattle.std.specs.Bool.{then_some}
use Rattle.quantities.specs.declared.Time.{Time}
use Rattle.quantities.specs.declared.TimeSpan.{TimeSpan}
use Rattle.quantities.specs.Time.{span}
use Rattle.remy.specs.declared.action.Action.{Action}
use Rattle.trainer.specs.declared.settings.Settings.{Settings}
use Rattle.sender.specs.declared.RepeatMode.{RepeatMode}
use Rattle.sender.specs.declared.Repeat.{Repeat}
use Rattle.sender.specs.declared.Rtt.{Rtt}
use Rattle.sender.specs.declared.Sender.{Sender}
use lib.ListN.{length, take, drop, length-take, length-drop}
use Rattle.std.proofs.lemmas.Bool.{and_parts}
use Rattle.std.proofs.lemmas.List.{get_or-drop}
use Rattle.std.proofs.lemmas.Bool.{and_parts}
use Rattle.remy.specs.declared.point.Point.{Point}
use Rattle.promise.specs.PlainTrainer.{counts, score, reload, change}
use Rattle.runs.specs.Script.{Item, train, ack, send, tick, lookup, word, number, float, action, ends, settings_at, settings, mode, handed_in, behind, moment_at, average_at, trips_at, pending_at, draw_of, bytes_of, size_of, item_of, whole_of, items_of}
use Rattle.runs.specs.Turn.{settings_in, First}

-- ---- what may be missing
pub there : {A : Type 0} (b : Bool) (x : A) → then_some (not b) x ≡ cond b None (Some x)
there true x = refl
there false x = refl

mapped_behind : {A B : Type 0} (b : Bool) (f : A → B) (x : A) → option_map f (cond b None (Some x)) ≡ cond b None (Some (f x))
mapped_behind true f x = refl
mapped_behind false f x = refl

-- ---- what stands k words on
module _ (ws : List ℕ) (k : ℕ) where
  pub action_from : action (drop k ws) 0 ≡ action ws k
  action_from = simp (get_or-drop, add-zero)

  pub ends_from : ends (drop k ws) 0 ≡ ends ws k
  ends_from = simp (get_or-drop, add-zero)

  pub trips_from : trips_at (drop k ws) 0 ≡ trips_at ws k
  trips_from = simp (get_or-drop, add-zero)

  pub pending_from : pending_at (drop k ws) 0 ≡ pending_at ws k
  pending_from = simp (get_or-drop, add-zero, add_assoc)

  -- what is made of seconds that may be missing
  pub part : {A : Type 0} (f : Float → A) {l : List ℕ} {m : Option Float} {r : Option A} → l ≡ drop k ws → m ≡ behind l 0 (float l 1)
      → r ≡ option_map f m → r ≡ behind ws k (f (float ws (k + 1)))
  part f d e h = h ∙ ap (option_map f) (e ∙ rw d (simp (get_or-drop, add-zero))) ∙ mapped_behind (eqb (word ws k) 0) f (float ws (k + 1))

-- ---- the settings, and the sender that is handed in
pub settings_read : (ws : List ℕ) (q : Point) {a b c : ℕ} {d : Bool} {e f g h k : Action} {p : Point} → a ≡ number ws 0 → b ≡ number ws 1
    → c ≡ number ws 2 → d ≡ eqb (word ws 3) 1 → e ≡ action ws 4 → f ≡ action ws 7 → g ≡ action ws 10 → h ≡ action ws 13 → k ≡ action ws 16
    → p ≡ q
    → ◌≡◌ {A = Settings}
    (record {
      rule_splits = a;
      optimization_rounds_per_split = b;
      action_change_multiplier = c;
      drill_down = d;
      min_action = e;
      max_action = f;
      initial_action_change = g;
      max_action_change = h;
      default_action = k;
      ends = p;
    })
    (settings_in ws q)
settings_read ws q a b c d e f g h k p =
    λ j.
    record {
      rule_splits = a j;
      optimization_rounds_per_split = b j;
      action_change_multiplier = c j;
      drill_down = d j;
      min_action = e j;
      max_action = f j;
      initial_action_change = g j;
      max_action_change = h j;
      default_action = k j;
      ends = p j;
    }

pub settings_from : (ws : List ℕ) → settings_in ws (ends (drop 43 ws) 0) ≡ settings ws
settings_from ws = ap (λ (p : Point). record (settings_at ws 0 0) { ends = p }) (ends_from ws 43)

pub sender_read : (ws : List ℕ) {a b k : Option Time} {c d : Option TimeSpan} {e : Option Rtt} {f : Option Repeat} {m : RepeatMode} {n : ℕ} {x : Float}
    → a ≡ moment_at ws 23 → b ≡ moment_at ws 25 → c ≡ average_at ws 27 → d ≡ average_at ws 29 → e ≡ trips_at ws 31 → f ≡ pending_at ws 34
    → m ≡ mode ws → k ≡ moment_at ws 39 → n ≡ number ws 41 → x ≡ float ws 42
    → ◌≡◌ {A = Sender}
    (record {
      last_ack = a;
      last_ack_send = b;
      ack_ewma = c;
      send_ewma = d;
      rtt = e;
      next_change = f;
      repeat_actions = m;
      last_send = k;
      window = n;
      intersend_delay = span x;
    })
    (handed_in ws)
sender_read ws a b c d e f m k n x =
    λ j.
    record {
      last_ack = a j;
      last_ack_send = b j;
      ack_ewma = c j;
      send_ewma = d j;
      rtt = e j;
      next_change = f j;
      repeat_actions = m j;
      last_send = k j;
      window = n j;
      intersend_delay = record { 0 = x j };
    }

-- ---- the call that stands first
module _ (ws : List ℕ) (n : ℕ) (e : size_of ws ≡ n) where
  pub first_of : {i : Item} {rest : List ℕ} → 0 < n → n ≤ length ws → i ≡ item_of ws → rest ≡ drop n ws → First ws i rest
  unfolding whole_of
  first_of h l f g = record {
    whole = rw (e, lt-ltb 0 n h, le-leb n (length ws) l);
    item = f;
    after = g ∙ ap (λ (k : ℕ). drop k ws) (sym e);
  }

  pub no_call : n ≤ 0 → whole_of ws ≡ false
  unfolding whole_of
  no_call h = rw (e, (let z : n ≡ 0 = omega arith in z))

  pub cut_off : length ws < n → whole_of ws ≡ false
  unfolding whole_of
  cut_off l = rw (e, lt-leb n (length ws) l) (and-false (ltb 0 n))

-- ---- the call of each code, by the words after it
module _ (code : ℕ) (ws : List ℕ) {rest : List ℕ} where
  pub counts_first : {xs : List ℕ} → code ≡ 1 → xs ≡ take (word ws 0) (drop 1 ws) → rest ≡ drop (1 + word ws 0) ws → 1 + word ws 0 ≤ length ws
      → First (code ∷ ws) (train (counts xs)) rest
  unfolding size_of item_of
  counts_first e f g l =
      rw e (first_of (1 ∷ ws) (suc (1 + word ws 0)) (let z : 2 + word ws 0 ≡ suc (1 + word ws 0) = omega arith in z) (omega arith) (omega arith) (ap (λ (ys : List ℕ). train (counts ys)) f) g)

  pub score_first : code ≡ 2 → 1 ≤ length ws → rest ≡ drop 1 ws → First (code ∷ ws) (train (score (float ws 0))) rest
  unfolding size_of item_of
  score_first e l g = rw e (first_of (2 ∷ ws) 2 refl (omega arith) (omega arith) refl g)

  pub reload_first : {xs : List ℕ} → code ≡ 3 → xs ≡ take (word ws 0) (drop 1 ws) → length xs ≤ 32768 → rest ≡ drop (1 + word ws 0) ws
      → 1 + word ws 0 ≤ length ws → First (code ∷ ws) (train (reload (bytes_of xs))) rest
  unfolding size_of item_of
  reload_first e f k g l =
      let m : word ws 0 ≤ 32768 = omega (arith, ap length f, length-take (word ws 0) (drop 1 ws), length-drop 1 ws) in
      rw e
      (first_of (3 ∷ ws) (suc (1 + word ws 0))
      (ap (λ (b : Bool). cond b (2 + word ws 0) 0) (le-leb (word ws 0) 32768 m) ∙ (let z : 2 + word ws 0 ≡ suc (1 + word ws 0) = omega arith in z))
      (omega arith) (omega arith) (ap (λ (ys : List ℕ). train (reload (bytes_of ys))) f) g)

  pub ack_first : code ≡ 4 → 3 ≤ length ws → rest ≡ drop 3 ws → First (code ∷ ws) (ack (float ws 0) (float ws 1) (draw_of (word ws 2))) rest
  unfolding size_of item_of
  ack_first e l g = rw e (first_of (4 ∷ ws) 4 refl (omega arith) (omega arith) refl g)

  pub send_first : code ≡ 5 → 1 ≤ length ws → rest ≡ drop 1 ws → First (code ∷ ws) (send (float ws 0)) rest
  unfolding size_of item_of
  send_first e l g = rw e (first_of (5 ∷ ws) 2 refl (omega arith) (omega arith) refl g)

  pub lookup_first : code ≡ 8 → 3 ≤ length ws → rest ≡ drop 3 ws → First (code ∷ ws) (lookup (ends ws 0)) rest
  unfolding size_of item_of
  lookup_first e l g = rw e (first_of (8 ∷ ws) 4 refl (omega arith) (omega arith) refl g)

  pub change_first : code ≡ 15 → 22 ≤ length ws → rest ≡ drop 22 ws → First (code ∷ ws) (train (change (settings_in ws (ends (drop 19 ws) 0)))) rest
  unfolding size_of item_of
  change_first e l g =
      rw e
      (first_of (15 ∷ ws) 23 refl (omega arith) (omega arith)
      (ap (λ (p : Point). train (change (record (settings_at ws 0 0) { ends = p }))) (ends_from ws 19)) g)

module _ (code : ℕ) (ws : List ℕ) where
  pub tick_first : code ≡ 6 → First (code ∷ ws) tick ws
  unfolding size_of item_of
  tick_first e = rw e (first_of (6 ∷ ws) 1 refl (omega arith) (omega arith) refl refl)

  -- ---- no whole call
  -- a code of n words after it
  short : (k n : ℕ) → size_of (k ∷ ws) ≡ suc n → code ≡ k → length ws < n → whole_of (code ∷ ws) ≡ false
  short k n e f l = rw f (cut_off (k ∷ ws) (suc n) e (omega arith))

  pub no_counts : code ≡ 1 → length ws < 1 + word ws 0 → whole_of (code ∷ ws) ≡ false
  unfolding size_of
  no_counts e = short 1 (1 + word ws 0) (let z : 2 + word ws 0 ≡ suc (1 + word ws 0) = omega arith in z) e

  pub no_score : code ≡ 2 → length ws < 1 → whole_of (code ∷ ws) ≡ false
  unfolding size_of
  no_score = short 2 1 refl

  reload_size : size_of (3 ∷ ws) ≡ cond (leb (word ws 0) 32768) (2 + word ws 0) 0
  unfolding size_of
  reload_size = refl

  pub no_bytes : code ≡ 3 → length ws < 1 + word ws 0 → whole_of (code ∷ ws) ≡ false
  no_bytes e l = rw e (go (leb (word ws 0) 32768) refl)
    where
      go : (b : Bool) → leb (word ws 0) 32768 ≡ b → whole_of (3 ∷ ws) ≡ false
      go true k =
          cut_off (3 ∷ ws) (2 + word ws 0) (reload_size ∙ ap (λ (b : Bool). cond b (2 + word ws 0) 0) k) (omega arith)
      go false k = no_call (3 ∷ ws) 0 (reload_size ∙ ap (λ (b : Bool). cond b (2 + word ws 0) 0) k) (omega arith)

  pub too_long : {xs : List ℕ} → code ≡ 3 → xs ≡ take (word ws 0) (drop 1 ws) → 32769 ≤ length xs → whole_of (code ∷ ws) ≡ false
  too_long e f l =
      let m : 32768 < word ws 0 = omega (arith, ap length f, length-take (word ws 0) (drop 1 ws)) in
      rw e (no_call (3 ∷ ws) 0 (reload_size ∙ ap (λ (b : Bool). cond b (2 + word ws 0) 0) (lt-leb (word ws 0) 32768 m)) (omega arith))

  pub no_ack : code ≡ 4 → length ws < 3 → whole_of (code ∷ ws) ≡ false
  unfolding size_of
  no_ack = short 4 3 refl

  pub no_send : code ≡ 5 → length ws < 1 → whole_of (code ∷ ws) ≡ false
  unfolding size_of
  no_send = short 5 1 refl

  pub no_lookup : code ≡ 8 → length ws < 3 → whole_of (code ∷ ws) ≡ false
  unfolding size_of
  no_lookup = short 8 3 refl

  pub no_change : code ≡ 15 → length ws < 22 → whole_of (code ∷ ws) ≡ false
  unfolding size_of
  no_change = short 15 22 refl

  pub no_code : (code ≡ 1 → ⊥) → (code ≡ 2 → ⊥) → (code ≡ 3 → ⊥) → (code ≡ 4 → ⊥) → (code ≡ 5 → ⊥) → (code ≡ 6 → ⊥) → (code ≡ 8 → ⊥) → (code ≡ 15 → ⊥)
      → whole_of (code ∷ ws) ≡ false
  unfolding size_of
  no_code a b c d e f g h = no_call (code ∷ ws) 0 size (omega arith)
    where
      size : size_of (code ∷ ws) ≡ 0
      size = rw (ne_eqb code 1 a, ne_eqb code 2 b, ne_eqb code 3 c, ne_eqb code 4 d, ne_eqb code 5 e, ne_eqb code 6 f, ne_eqb code 8 g, ne_eqb code 15 h)

-- ---- a whole call
pub record Stands (ws : List ℕ) : Type 0 where
  pub whole : whole_of ws ≡ true
  pub some : 0 < size_of ws
  pub within : size_of ws ≤ length ws

pub stands_from : (ws : List ℕ) → whole_of ws ≡ true → Stands ws
unfolding whole_of
stands_from ws e =
    let p = and_parts (ltb 0 (size_of ws)) (leb (size_of ws) (length ws)) e in
    record { whole = e; some = ltb-true 0 (size_of ws) p.0; within = leb-true (size_of ws) (length ws) p.1 }

-- ---- the list of calls
pub no_calls : (n : ℕ) (ws : List ℕ) → whole_of ws ≡ false → items_of n ws ≡ []
unfolding items_of
no_calls zero ws e = refl
no_calls (suc n) ws e = rw e

one_call : (n : ℕ) (ws : List ℕ) → whole_of ws ≡ true → items_of (suc n) ws ≡ item_of ws ∷ items_of n (drop (size_of ws) ws)
unfolding items_of
one_call n ws e = rw e

pub empty_not : (ws : List ℕ) → length ws ≤ 0 → whole_of ws ≡ false
empty_not ws h = go (whole_of ws) refl
  where
    go : (b : Bool) → whole_of ws ≡ b → whole_of ws ≡ false
    go true w = absurd (let k = stands_from ws w in omega arith)
    go false w = w

-- the words after a whole call are fewer
left : (n : ℕ) (ws : List ℕ) → length ws ≤ suc n → Stands ws → length (drop (size_of ws) ws) ≤ n
left n ws h f = let a = f.some in let b = f.within in rw length-drop (omega arith)

either : (n m : ℕ) (ws : List ℕ) → (Stands ws → items_of n (drop (size_of ws) ws) ≡ items_of m (drop (size_of ws) ws))
    → (b : Bool) → whole_of ws ≡ b → items_of (suc n) ws ≡ items_of (suc m) ws
either n m ws f true w =
    one_call n ws w ∙ ap (λ (l : List Item). item_of ws ∷ l) (f (stands_from ws w)) ∙ sym (one_call m ws w)
either n m ws f false w = no_calls (suc n) ws w ∙ sym (no_calls (suc m) ws w)

-- more calls than there are words change nothing
enough : (n m : ℕ) (ws : List ℕ) → length ws ≤ n → length ws ≤ m → items_of n ws ≡ items_of m ws
enough zero m ws h k = no_calls zero ws (empty_not ws h) ∙ sym (no_calls m ws (empty_not ws h))
enough (suc n) zero ws h k = no_calls (suc n) ws (empty_not ws k) ∙ sym (no_calls zero ws (empty_not ws k))
enough (suc n) (suc m) ws h k =
    either n m ws (λ f. enough n m (drop (size_of ws) ws) (left n ws h f) (left m ws k f)) (whole_of ws) refl

-- the first call, and those after it
pub next_call : (n : ℕ) (ws : List ℕ) → length ws ≤ n → Stands ws → items_of n ws ≡ item_of ws ∷ items_of n (drop (size_of ws) ws)
next_call zero ws h f = absurd (let a = f.some in let b = f.within in omega arith)
next_call (suc n) ws h f =
    let l = left n ws h f in
    one_call n ws f.whole ∙ ap (λ (is : List Item). item_of ws ∷ is) (enough n (suc n) (drop (size_of ws) ws) l (omega arith))
