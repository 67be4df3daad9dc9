-- The trainer's record is the plain trainer's. Assumes nothing.
use mathlib.Core.Path.{◌≡◌, refl, sym, ap, ◌∙◌}
use mathlib.Core.List.{List, ◌∷◌, ◌++◌, map, append_assoc, append-nil}
use Prim.Native.Nat.{ℕ, zero, suc, ◌<◌, ◌≤◌}
use native.Mathlib.Omega.{arith}
use lib.ListN.{length, take}
use lib.Seq.{take-suc, take_all}
use lib.Ieee.{Float}
use Rattle.std.specs.Prelude.{None}
use Rattle.remy.specs.Cube as cube
use Rattle.rule_tree.specs.declared.RuleTree.{RuleTree}
use Rattle.rule_tree.specs.Nodes.{node_at_of}
use Rattle.rule_tree.specs.Nodes as layer
use Rattle.trainer.specs.declared.settings.Settings.{Settings}
use Rattle.trainer.specs.declared.Trainer.{Trainer}
use Rattle.wire.specs.Bytes.{bytes_of, shorts_bytes}
use Rattle.record.specs.Write.{settings_bytes, end_bytes, splits_bytes, node_bytes, payload_bytes, body_of, version, record_in, record_of}
use Rattle.record.specs.Layout.{layout_of}
use Rattle.record.specs.Write as written
use Rattle.promise.specs.PlainTree.{Tree, Rule, nodes, rule_at}
use Rattle.promise.specs.PlainTrainer.{State, Phase, Kept, phase1, phase2, phase3, phase4, phase5, phase6, phase7, at, kept_number, kept_score_of, state_bytes, phase_bytes, body, record_bytes}
use Rattle.promise.specs.PlainRecord.{joined, u16, u32, bits8, settings_part, ends_part, rule_part, tree_part}
use Rattle.promise.proofs.RecordParts.{settings_part_lem, ends_part_lem, numbers_part, rule_part_lem, rules_last}
use Rattle.promise.proofs.Links.{link}
use Rattle.promise.proofs.Embed.{embed_tree, ValidTree, node_used, embed_at}
use Rattle.promise.proofs.TreeSteps.{no_rule}
use Rattle.promise.proofs.TreeGrown.{splits_embed}
use Rattle.promise.proofs.Accepted.{settings_of, tree_of}
use Rattle.promise.proofs.States.{embed_in, embed, ValidState}

-- ---- every node's action and mark
module _ (t : Tree) (v : ValidTree t) where
  one_payload : (n : ℕ) → n < nodes t → node_bytes (node_at_of (embed_tree t).nodes n) ≡ rule_part (rule_at t n)
  one_payload n l =
      ap node_bytes (embed_at t n (omega (arith, v.few)) ∙ node_used t n l) ∙ sym (rule_part_lem (rule_at t n) (link 0 t.splits n))

  payloads : (n : ℕ) → n ≤ nodes t → payload_bytes (layout_of version) (embed_tree t).nodes n ≡ joined (map rule_part (take n t.rules))
  unfolding payload_bytes
  payloads zero l = refl
  payloads (suc n) l =
      ap (λ (bs : List ℕ). bs ++ node_bytes (node_at_of (embed_tree t).nodes n)) (payloads n (omega arith))
      ∙ ap (λ (bs : List ℕ). joined (map rule_part (take n t.rules)) ++ bs) (one_payload n (omega arith))
      ∙ rules_last (take n t.rules) (rule_at t n)
      ∙ ap (λ (rs : List Rule). joined (map rule_part rs)) (sym (take-suc t.rules n no_rule (omega (arith, v.sized))))

  every_payload : payload_bytes (layout_of version) (embed_tree t).nodes (nodes t) ≡ joined (map rule_part t.rules)
  every_payload =
      payloads (nodes t) (omega arith)
      ∙ ap (λ (rs : List Rule). joined (map rule_part rs)) (take_all (nodes t) t.rules (omega (arith, v.sized)))

  tree_bytes : (bs : List ℕ) → splits_bytes (embed_tree t) ++ (payload_bytes (layout_of version) (embed_tree t).nodes (nodes t) ++ bs) ≡ tree_part t ++ bs
  tree_bytes bs =
      let n = bytes_of 2 (length t.splits) in
      let ks = joined (map u16 t.splits) in
      let rs = joined (map rule_part t.rules) in
      ap (λ (xs : List ℕ). (n ++ xs) ++ (payload_bytes (layout_of version) (embed_tree t).nodes (nodes t) ++ bs))
      (ap shorts_bytes (splits_embed t v) ∙ sym (numbers_part t.splits))
      ∙ ap (λ (ps : List ℕ). (n ++ ks) ++ (ps ++ bs)) every_payload
      ∙ sym (append_assoc (n ++ ks) rs bs)
      ∙ ap (λ (xs : List ℕ). xs ++ bs) (append_assoc n ks rs ∙ ap (λ (xs : List ℕ). n ++ (ks ++ xs)) (sym (append-nil rs)))

-- ---- the phase's fields
state_fields :
    (st : State) (phase i : ℕ) (best : Float) (k : ℕ) (kept : Kept)
    → phase ∷ (u32 st.stage ++ (u32 st.round ++ (u16 i ++ (bits8 best ++ (u16 k ++ (u16 (kept_number kept) ++ bits8 (kept_score_of kept)))))))
    ≡ state_bytes st phase i best k kept
state_fields st phase i best k kept =
    ap (λ (xs : List ℕ). phase ∷ (u32 st.stage ++ (u32 st.round ++ (u16 i ++ (bits8 best ++ (u16 k ++ (u16 (kept_number kept) ++ xs)))))))
    (sym (append-nil (bits8 (kept_score_of kept))))

pub state_bytes_lem : (s : Settings) (t : Tree) (i r : ℕ) (p : Phase) → written.state_bytes (embed_in s (embed_tree t) i r p) ≡ phase_bytes (at s t i r p) p
unfolding phase_bytes kept_number kept_score_of
state_bytes_lem s t i r phase1 = state_fields (at s t i r phase1) 1 0 cube.zero 0 None
state_bytes_lem s t i r phase2 = state_fields (at s t i r phase2) 2 0 cube.zero 0 None
state_bytes_lem s t i r phase3 = state_fields (at s t i r phase3) 3 0 cube.zero 0 None
state_bytes_lem s t i r (phase4 l) = state_fields (at s t i r (phase4 l)) 4 l cube.zero 0 None
state_bytes_lem s t i r (phase5 l best k kept) = state_fields (at s t i r (phase5 l best k kept)) 5 l best k kept
state_bytes_lem s t i r phase6 = state_fields (at s t i r phase6) 6 0 cube.zero 0 None
state_bytes_lem s t i r phase7 = state_fields (at s t i r phase7) 7 0 cube.zero 0 None

body_embeds : (st : State) → ValidTree st.tree → body_of (embed st) ≡ body st
body_embeds st v =
    let s = settings_of st.settings (embed_tree st.tree) st.stage st.round st.phase in
    let q = tree_of st.settings (embed_tree st.tree) st.stage st.round st.phase in
    let bs = written.state_bytes (embed st) in
    let ss = settings_part st.settings in
    let es = ends_part st.settings in
    ap (λ (xs : List ℕ). version ∷ (xs ++ (end_bytes (layout_of version) (embed st).settings ++ (splits_bytes (embed st).tree ++ (payload_bytes (layout_of version) (embed st).tree.nodes (layer.node_count (embed st).tree.splits) ++ bs)))))
    (ap settings_bytes s ∙ sym (settings_part_lem st.settings))
    ∙ ap (λ (xs : List ℕ). version ∷ (ss ++ (xs ++ (splits_bytes (embed st).tree ++ (payload_bytes (layout_of version) (embed st).tree.nodes (layer.node_count (embed st).tree.splits) ++ bs)))))
    (ap (end_bytes (layout_of version)) s ∙ sym (ends_part_lem (layout_of version) st.settings refl))
    ∙ ap (λ (x : RuleTree). version ∷ (ss ++ (es ++ (splits_bytes x ++ (payload_bytes (layout_of version) x.nodes (layer.node_count x.splits) ++ bs))))) q
    ∙ ap (λ (xs : List ℕ). version ∷ (ss ++ (es ++ xs))) (tree_bytes st.tree v bs)
    ∙ ap (λ (xs : List ℕ). version ∷ (ss ++ (es ++ (tree_part st.tree ++ xs))))
    (state_bytes_lem st.settings st.tree st.stage st.round st.phase ∙ sym (append-nil (phase_bytes st st.phase)))

pub record_is : (t : Trainer) → record_of t ≡ bytes_of 4 (length (body_of t)) ++ body_of t
unfolding record_in
record_is t = refl

pub record_embeds : (st : State) → ValidState st → record_of (embed st) ≡ record_bytes st
record_embeds st v = record_is (embed st) ∙ ap (λ (xs : List ℕ). bytes_of 4 (length xs) ++ xs) (body_embeds st v.tree)
