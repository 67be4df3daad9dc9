-- A reload leaves the trainer: what a save writes is the plain trainer's record, and a load takes back what a save writes. Assumes nothing.
use mathlib.Core.Path.{◌≡◌, sym, ap, ◌∙◌}
use mathlib.Core.Bool.{true, cond}
use mathlib.Core.List.{List, ◌++◌}
use Prim.Native.Nat.{ℕ, ◌+◌, ◌*◌}
use lib.Dec.{leb}
use lib.ListN.{length, drop}
use Rattle.std.specs.Prelude.{Ok, Err}
use Rattle.refusal.specs.declared.Refusal.TheVariants.{ShortBuffer}
use Rattle.rule_tree.specs.declared.RuleTree.{RuleTree}
use Rattle.trainer.specs.declared.Trainer.{Trainer}
use Rattle.trainer.specs.State.{accepted_of}
use Rattle.record.specs.Write.{record_of}
use Rattle.record.specs.Calls.{save_of, buffer_after, load_of}
use Rattle.record.proofs.Size.{record_count}
use Rattle.record.proofs.Loading.{accepted_grown, load_saved}
use Rattle.promise.specs.PlainTrainer.{State, record_bytes}
use Rattle.promise.proofs.Embed.{embed_tree}
use Rattle.promise.proofs.States.{embed, ValidState}
use Rattle.promise.proofs.Accepted.{tree_of, accepted_embeds}
use Rattle.promise.proofs.Records.{record_embeds}
use Rattle.promise.proofs.Fitting.{FitState}

module _ (st : State) (v : ValidState st) (f : FitState st) where
  pub record_length : length (record_bytes st) ≡ 196 + 170 * length st.tree.splits
  record_length =
      ap length (sym (record_embeds st v))
      ∙ record_count (embed st) (accepted_grown (embed st) (accepted_embeds st v)) f.tree.full
      ∙ ap (λ (u : RuleTree). 196 + 170 * u.splits) (tree_of st.settings (embed_tree st.tree) st.stage st.round st.phase)

  -- a load of exactly the bytes written
  pub load_embeds : load_of (record_bytes st) ≡ Ok (embed st)
  load_embeds = ap load_of (sym (record_embeds st v)) ∙ load_saved (embed st) f (accepted_embeds st v)

-- ---- the two calls
save_is :
    (t : Trainer) (buf : List ℕ) → accepted_of t ≡ true → save_of t buf ≡ cond (leb (length (record_of t)) (length buf)) (Ok (length (record_of t))) (Err ShortBuffer)
unfolding save_of
save_is t buf a = rw a

pub save_embeds :
    (st : State) → ValidState st → (buf : List ℕ)
    → save_of (embed st) buf ≡ cond (leb (length (record_bytes st)) (length buf)) (Ok (length (record_bytes st))) (Err ShortBuffer)
save_embeds st v buf =
    save_is (embed st) buf (accepted_embeds st v)
    ∙ ap (λ (bs : List ℕ). cond (leb (length bs) (length buf)) (Ok (length bs)) (Err ShortBuffer)) (record_embeds st v)

-- "changes no byte past it"
pub saved_embeds :
    (st : State) → ValidState st → (buf : List ℕ) → buffer_after (embed st) buf (Ok (length (record_bytes st))) ≡ record_bytes st ++ drop (length (record_bytes st)) buf
unfolding buffer_after
saved_embeds st v buf = ap (λ (bs : List ℕ). bs ++ drop (length (record_bytes st)) buf) (record_embeds st v)
