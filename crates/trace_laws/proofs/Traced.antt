-- What is printed of a record and a trace are the plain sender's lines over the plain tree. Assumes nothing.
use mathlib.Core.Path.{◌≡◌, sym, ap, subst, ◌∙◌}
use mathlib.Core.Bool.{true}
use mathlib.Core.List.{List, [], ◌∷◌, ◌++◌}
use Prim.Native.Nat.{ℕ, ◌≤◌}
use lib.ListN.{length}
use Rattle.rule_tree.specs.declared.RuleTree.{RuleTree}
use Rattle.trainer.specs.declared.settings.Settings.{Settings}
use Rattle.trainer.specs.Settings.{settings_hold}
use Rattle.record.specs.Read.{read_of}
use Rattle.record.specs.Calls.{version_holds, body_holds}
use Rattle.panel_lines.specs.Panel.{record_part, start_holds, tree_in}
use Rattle.sender.specs.declared.Event.{Event}
use Rattle.promise.specs.PlainTree.{Tree}
use Rattle.promise.specs.PlainTrainer.{State, Call, start, step, record_bytes}
use Rattle.promise.specs.Values.{Every, FitSettings, FitCall}
use Rattle.promise.specs.Demand3.{SameTree, plain_end_of}
use Rattle.promise.proofs.Embed.{embed_tree, ValidTree}
use Rattle.promise.proofs.States.{ValidState, embed}
use Rattle.promise.proofs.Accepted.{tree_of}
use Rattle.promise.proofs.Begins.{start_valid}
use Rattle.promise.proofs.Fitting.{FitState, point-fits, start_fits, step_fits}
use Rattle.promise.proofs.StepsKeep.{step_valid}
use Rattle.promise.proofs.Runs.{end_valid}
use Rattle.promise.proofs.Reload.{load_embeds}
use Rattle.promise.proofs.Ways.{tree_same}
use Rattle.promise.proofs.Loads.{load_accepted, load_typed}
use Rattle.trainer.proofs.AcceptedFacts.{accepted_grown}
use Rattle.promise.proofs.UnembedTree.{plain_tree, tree_valid, tree_back}
use Rattle.trace_lines.specs.Trace.{trace_part, events, printed_of}
use Rattle.trace_lines.specs.Encoding.{events_bytes, trace_bytes, FitEvents}
use Rattle.trace_lines.proofs.TraceLaws.{trace_encoded}
use Rattle.trace_laws.specs.PlainTrace.{plain_lines, Traces, PlainRecord}
use Rattle.trace_laws.proofs.Joined.{traced, printed_traced, loads, printed_joined}
use Rattle.trace_laws.proofs.Lines.{lines_plain}

-- a trace over the tree that u stands for
traces : (u : Tree) → ValidTree u → (t : RuleTree) → t ≡ embed_tree u → (bytes printed : List ℕ) → printed ≡ traced t bytes → Traces u bytes printed
traces u v t e bytes printed p =
    record {
      taken = λ h. p ∙ ap (λ (x : RuleTree). traced x bytes) e ∙ rw h (lines_plain u v (events bytes));
      refused = λ h. p ∙ rw h;
    }

-- ---- the record of a plain trainer's state
module _ (st : State) (v : ValidState st) (f : FitState st) where
  state_tree : (embed st).tree ≡ embed_tree st.tree
  state_tree = tree_of st.settings (embed_tree st.tree) st.stage st.round st.phase

  pub state_traces : (bytes : List ℕ) → Traces st.tree bytes (printed_of (record_bytes st ++ bytes))
  state_traces bytes =
      traces st.tree v.tree (embed st).tree state_tree bytes (printed_of (record_bytes st ++ bytes))
      (printed_joined (record_bytes st) bytes (embed st) (load_embeds st v f))

-- a list of calls leaves a state whose values are of their types
end_fits : (st : State) (cs : List Call) → ValidState st → FitState st → Every FitCall cs → FitState (plain_end_of st cs)
unfolding plain_end_of
end_fits st [] v f h = f
end_fits st (c ∷ cs) v f h = end_fits (step st c).state cs (step_valid st v c h.0) (step_fits st v f c h.0) h.1

-- ---- every list of calls to a trainer that starts fresh, and every trace after its record
module _ (s : Settings) (h : settings_hold s ≡ true) (f : FitSettings s) (cs : List Call) (c : Every FitCall cs) where
  pub trace_plain : (bytes : List ℕ) → Traces (plain_end_of (start s) cs).tree bytes (printed_of (record_bytes (plain_end_of (start s) cs) ++ bytes))
  trace_plain bytes =
      let v = start_valid s h (point-fits f.ends) in
      state_traces (plain_end_of (start s) cs) (end_valid (start s) cs v c) (end_fits (start s) cs v (start_fits s h f) c) bytes

  -- and so of every list of events that a trace can hold
  pub events_plain : (es : List Event) → FitEvents es → length (events_bytes es) ≤ 32763
      → printed_of (record_bytes (plain_end_of (start s) cs) ++ trace_bytes es) ≡ plain_lines (plain_end_of (start s) cs).tree es
  events_plain es g l =
      let e = trace_encoded es g l in
      (trace_plain (trace_bytes es)).taken e.0 ∙ ap (plain_lines (plain_end_of (start s) cs).tree) e.1

-- ---- every record that is accepted, and whatever follows it
module _ (input : List ℕ) (x : start_holds input ≡ true) (y : version_holds (record_part input) ≡ true) (z : body_holds (record_part input) ≡ true) where
  pub every_record : PlainRecord input
  every_record =
      let t = read_of (record_part input) in
      let h = loads input x y z in
      let g = accepted_grown t (load_accepted (record_part input) h) in
      let f = load_typed (record_part input) h in
      let u = plain_tree t.tree in
      let v = tree_valid t.tree g f.sized f.ends in
      let e : tree_in input ≡ embed_tree u = sym (tree_back t.tree g f.sized f.nodes) in
      record {
        tree = u;
        same = subst (λ (r : RuleTree). SameTree r u) (sym e) (tree_same u v);
        traces = traces u v (tree_in input) e (trace_part input) (printed_of input) (printed_traced input x y z);
      }
