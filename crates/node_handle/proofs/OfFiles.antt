-- What is opened from the file of a log, and why it is refused, once the file's parts are known.
use Rattle.std.proofs.Common.{◌≡◌, ℕ, ◌+◌, ◌-◌, List, length, Some, ap, ◌∙◌, subst, inl, inr}
use Rattle.world_setup.specs.Seen.{node_seen}
use Rattle.world_setup.specs.declared.node.Node.{Node}
use Rattle.claim_model.specs.Node as model
use Rattle.schedule.specs.Nodes.{node_in}
use Rattle.kept_logs.specs.Rests.{calls_before}
use Rattle.log_turning.specs.Files.{part_in}
use Rattle.log_turning.specs.Joined.{Part}
use Rattle.node_service.specs.Opened.{IsOpened}
use Rattle.node_service.specs.Refused.{IsRefused}
use Rattle.node_service.specs.Serving.{Serving}
use Rattle.node_service.specs.declared.fault.ServiceFault.{ServiceFault}
use Rattle.node_handle.specs.declared.refusal.Refusal.{Refusal}
use Rattle.node_handle.specs.Calls.{IsOfFile, RefusesNode, TellsFault}
use Rattle.node_handle.specs.Hosting.{Hosting, just_opened}
use Rattle.node_handle.specs.Refusals.{place_in}

-- a node that was opened from the parts of a file
pub of_file : (settings : List ℕ) (node : model.Node) (file : List ℕ) (p : Part) (first stay kept : ℕ) (s : Serving) (h : Hosting)
    → p ≡ part_in file → first ≡ length file - length p.log → IsOpened settings node p.rest p.log stay s → kept ≡ first + stay
    → h ≡ just_opened (calls_before p.rest) s → IsOfFile settings node file kept h
of_file settings node file p first stay kept s h is at opened counted made = record {
  serving = s;
  stay = stay;
  opened = subst (λ (q : Part). IsOpened settings node q.rest q.log stay s) is opened;
  stays = counted ∙ ap (λ (n : ℕ). n + stay) (at ∙ ap (λ (q : Part). length file - length q.log) is);
  is = made ∙ ap (λ (q : Part). just_opened (calls_before q.rest) s) is;
}

-- a node that is refused, by a fault of the parts of a file
pub refused_of_file : (settings name file : List ℕ) (node : Node) (p : Part) (first : ℕ) (fault : ServiceFault) (why : Refusal) (before kept : ℕ)
    → node_in name ≡ Some node → p ≡ part_in file → first ≡ length file - length p.log → IsRefused settings (node_seen node) p.rest p.log fault
    → TellsFault fault first why before kept → RefusesNode settings name file why before kept
refused_of_file settings name file node p first fault why before kept named is at refused (inl told) = inr (inr (record {
  node = node;
  named = named;
  fault = fault;
  refused = subst (λ (q : Part). IsRefused settings (node_seen node) q.rest q.log fault) is refused;
  is = told.0;
  place = told.1 ∙ ap (λ (n : ℕ). place_in fault n before) (at ∙ ap (λ (q : Part). length file - length q.log) is);
}))
refused_of_file settings name file node p first fault why before kept named is at refused (inr memory) = inl memory
