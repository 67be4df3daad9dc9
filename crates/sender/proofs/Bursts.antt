-- The turn of the loop over the acks of a burst, and its two ends. Assumes nothing.
use mathlib.Core.Path.{◌≡◌, refl, sym, ap, ◌∙◌, subst}
use mathlib.Core.List.{List, [], ◌∷◌, ◌++◌, append_assoc, append-nil}
use Prim.Native.Nat.{ℕ, suc, ◌+◌, ◌<◌}
use native.Mathlib.Numerals.{add-one}
use lib.ListN.{length, get_or, drop, set, length-append}
use lib.Seq.{drop-cons, set_at, drop-length}
use Rattle.std.specs.Prelude.{Option, Some, None, Result, Ok, Err}
use Rattle.refusal.specs.declared.Refusal.{Refusal}
use Rattle.rule_tree.specs.declared.RuleTree.{RuleTree}
use Rattle.sender.specs.declared.Ack.{Ack}
use Rattle.sender.specs.declared.Held.{Held}
use Rattle.sender.specs.declared.Ran.{Ran}
use Rattle.sender.specs.declared.Sender.{Sender}
use Rattle.sender.specs.Sender.{ack_of, left_by}
use Rattle.sender.specs.Burst.{Course, ahead, course_of, ends_with, flag_of, onwards, ran_by}

-- ---- one ack ahead of the others
module _ (t : RuleTree) (s : Sender) (x : Ack) (xs : List Ack) {r : Result Held Refusal} (is : r ≡ ack_of t s x.sent x.received x.draw) where
  first : course_of t s (x ∷ xs) ≡ onwards s r (course_of t (left_by s r) xs)
  unfolding course_of
  first = ap (λ (z : Result Held Refusal). onwards s z (course_of t (left_by s z) xs)) (sym is)

  pub first_taken : {h : Held} → r ≡ Ok h → course_of t s (x ∷ xs) ≡ ahead (h.window ∷ []) (flag_of h.clipped ∷ []) (course_of t h.sender xs)
  unfolding onwards left_by
  first_taken e = first ∙ ap (λ (z : Result Held Refusal). onwards s z (course_of t (left_by s z) xs)) e

  pub first_refused : {k : Refusal} → r ≡ Err k → course_of t s (x ∷ xs) ≡ ends_with s (Some k)
  unfolding onwards
  first_refused e = first ∙ ap (λ (z : Result Held Refusal). onwards s z (course_of t (left_by s z) xs)) e

pub ahead_ahead : (ws vs fs gs : List ℕ) (c : Course) → ahead ws fs (ahead vs gs c) ≡ ahead (ws ++ vs) (fs ++ gs) c
ahead_ahead ws vs fs gs c =
    λ j. record { sender = c.sender; windows = sym (append_assoc ws vs c.windows) j; flags = sym (append_assoc fs gs c.flags) j; stopped = c.stopped }

-- ---- a list that is written up to i
one_more : (ws : List ℕ) (a : ℕ) {i : ℕ} → length ws ≡ i → length (ws ++ (a ∷ [])) ≡ i + 1
one_more ws a e = length-append ws (a ∷ []) ∙ ap (λ (n : ℕ). n + 1) e

next_set : (ws l : List ℕ) (i a : ℕ) → length ws ≡ i → i < length l → set (ws ++ drop i l) i a ≡ (ws ++ (a ∷ [])) ++ drop (i + 1) l
next_set ws l i a e h =
    ap (λ (m : List ℕ). set (ws ++ m) i a) (drop-cons l i 0 h) ∙ set_at ws (get_or l i 0) (drop (suc i) l) a i e
    ∙ sym (append_assoc ws (a ∷ []) (drop (suc i) l)) ∙ ap (λ (n : ℕ). (ws ++ (a ∷ [])) ++ drop n l) (sym (add-one i))

-- ---- the loop
module _ (t : RuleTree) (s : Sender) (acks : List Ack) (w₀ f₀ : List ℕ) where
  -- what i acks gave, all taken
  pub record SoFar (w f : List ℕ) (left : Sender) (i : ℕ) : Type 0 where
    pub ws : List ℕ
    pub fs : List ℕ
    pub counted : length ws ≡ i
    pub flagged : length fs ≡ i
    pub windows : w ≡ ws ++ drop i w₀
    pub flags : f ≡ fs ++ drop i f₀
    pub course : course_of t s acks ≡ ahead ws fs (course_of t left (drop i acks))

  pub begun : SoFar w₀ f₀ s 0
  begun = record { ws = []; fs = []; counted = refl; flagged = refl; windows = refl; flags = refl; course = refl }

  -- what the code is held to where it returns
  abbrev pub Ends : List ℕ → List ℕ → Ran → Type 0
  Ends w f r =
      let c = course_of t s acks in (r ≡ ran_by c) × (w ≡ c.windows ++ drop r.taken w₀) × (f ≡ c.flags ++ drop r.taken f₀)

  module _ {w f : List ℕ} {left : Sender} {i : ℕ} (so : SoFar w f left i) where
    closed : {k : Option Refusal} → course_of t left (drop i acks) ≡ ends_with left k
        → course_of t s acks ≡ record { sender = left; windows = so.ws; flags = so.fs; stopped = k }
    closed {k} e =
        so.course ∙ ap (ahead so.ws so.fs) e
        ∙ (λ j. record { sender = left; windows = append-nil so.ws j; flags = append-nil so.fs j; stopped = k })

    ends : {k : Option Refusal} → course_of t left (drop i acks) ≡ ends_with left k → Ends w f (record { sender = left; taken = i; stopped = k })
    ends {k} e =
        let c = closed e in (
          sym (ap ran_by c ∙ ap (λ (n : ℕ). record { sender = left; taken = n; stopped = k }) so.counted),
          so.windows ∙ ap (λ (z : Course). z.windows ++ drop i w₀) (sym c),
          so.flags ∙ ap (λ (z : Course). z.flags ++ drop i f₀) (sym c),
        )

    -- no ack is left
    pub over : i ≡ length acks → Ends w f (record { sender = left; taken = length acks; stopped = None })
    unfolding course_of
    over e =
        subst (λ (n : ℕ). Ends w f (record { sender = left; taken = n; stopped = None })) e
        (ends (ap (course_of t left) (ap (λ (n : ℕ). drop n acks) e ∙ drop-length acks)))

    -- the next ack, answered with r
    module _ (h : i < length acks) (d : Ack) {r : Result Held Refusal} (is : let x = get_or acks i d in r ≡ ack_of t left x.sent x.received x.draw)
      where
        abbrev x : Ack
        x = get_or acks i d

        next : drop i acks ≡ x ∷ drop (i + 1) acks
        next = drop-cons acks i d h ∙ (λ j. x ∷ drop (sym (add-one i) j) acks)

        pub stopped : {k : Refusal} → r ≡ Err k → Ends w f (record { sender = left; taken = i; stopped = Some k })
        stopped e = ends (ap (course_of t left) next ∙ first_refused t left x (drop (i + 1) acks) is e)

        pub turn : i < length w₀ → i < length f₀ → {held : Held} {flag : ℕ} → r ≡ Ok held → flag ≡ flag_of held.clipped
            → SoFar (set w i held.window) (set f i flag) held.sender (i + 1)
        turn a c {held} {flag} e g =
            record {
              ws = so.ws ++ (held.window ∷ []);
              fs = so.fs ++ (flag ∷ []);
              counted = one_more so.ws held.window so.counted;
              flagged = one_more so.fs flag so.flagged;
              windows = ap (λ (z : List ℕ). set z i held.window) so.windows ∙ next_set so.ws w₀ i held.window so.counted a;
              flags = ap (λ (z : List ℕ). set z i flag) so.flags ∙ next_set so.fs f₀ i flag so.flagged c;
              course =
                  let xs = drop (i + 1) acks in
                  so.course ∙ ap (ahead so.ws so.fs) (ap (course_of t left) next ∙ first_taken t left x xs is e
                  ∙ ap (λ (n : ℕ). ahead (held.window ∷ []) (n ∷ []) (course_of t held.sender xs)) (sym g))
                  ∙ ahead_ahead so.ws (held.window ∷ []) so.fs (flag ∷ []) (course_of t held.sender xs);
            }
