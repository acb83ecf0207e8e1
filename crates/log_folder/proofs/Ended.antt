-- What came of a log that was read, in the words of the clauses.
use Rattle.std.proofs.Common.{◌≡◌, inr, ℕ, List, Result, Ok, Err, IfOk, refl, sym, subst}
use Rattle.claim_model.specs.Node.{Node}
use Rattle.log_turning.specs.Files.{part_in}
use Rattle.log_turning.specs.Joined.{Part}
use Rattle.log_turning.specs.Turned.{IsTurned}
use Rattle.log_turning.specs.declared.turning.Turned.{Turned}
use Rattle.log_folder.specs.declared.closing.Closing.{Closing}
use Rattle.log_folder.specs.declared.closing.Closing.TheVariants.{Done}
use Rattle.log_folder.specs.declared.fault.CloseFault.{CloseFault}
use Rattle.log_folder.specs.Deeds.{Deed, IsFollowed, all_done}
use Rattle.log_folder.specs.Plans.{IsAnswered, IsClosing, closing_plan}

-- the parts of a file are those that the bytes have
pub turns : (text : List ℕ) (node : Node) (bytes : List ℕ) (part : Part) (turned : Turned) → part ≡ part_in bytes → IsTurned text node part.rest part.log turned → IsTurned text node (part_in bytes).rest (part_in bytes).log turned
turns text node bytes part turned e is = subst (λ (p : Part). IsTurned text node p.rest p.log turned) e is

pub begun : (text : List ℕ) (node : Node) (bytes : List ℕ) (part : Part) (turned : Turned) (old new : List Deed) → part ≡ part_in bytes → IsTurned text node part.rest part.log turned → IsFollowed (closing_plan bytes turned) old new → IsClosing text node bytes old new
begun text node bytes part turned old new e is followed = inr (turned, (turns text node bytes part turned e is, followed))

pub ended : (text : List ℕ) (node : Node) (least : ℕ) (bytes : List ℕ) (part : Part) (turned : Turned) (old new : List Deed) (r : Result Closing CloseFault) → part ≡ part_in bytes → IsTurned text node part.rest part.log turned
    → IfOk r (λ closing. (closing ≡ Done turned.calls) × (new ≡ all_done (closing_plan bytes turned) old)) → IfOk r (λ closing. IsAnswered text node least bytes closing old new)
ended text node least bytes part turned old new (Ok closing) e is done =
    subst (λ (x : Closing). IsAnswered text node least bytes x old new) (sym done.0) (record { turned = turned; is = turns text node bytes part turned e is; all = done.1; counted = refl })
ended text node least bytes part turned old new (Err why) e is done = tt
