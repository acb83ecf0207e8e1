-- A payer is said as it is seen.
use Rattle.std.proofs.Common.{◌≡◌, ◌++◌, ℕ, List, subst}
use Rattle.std.specs.Prelude.{OnOk}
use Rattle.std.proofs.lemmas.Result.{on_ok_weaker}
use Rattle.world_setup.specs.Seen.{payer_seen}
use Rattle.settings_digest.specs.Said.{payer_text}
use Rattle.settings_digest.specs.Fits.{FitsPayer}
use Rattle.settings_digest.proofs.Putting.{seen_text, seen_fit}
use Rattle.settings_digest.proofs.nodes.put_payers.Goals as goal

pub returns-clause-text : goal.returns-clause-text
returns-clause-text c = subst (λ (t : List ℕ). OnOk c.put_list.result (c.put_list.new.out.items ≡ c.args.out.now.items ++ t)) (seen_text payer_seen payer_text c.args.payers.now) c.put_list.ensures.text

pub returns-clause-fits : goal.returns-clause-fits
returns-clause-fits c =
    let payers = c.args.payers.now in
    on_ok_weaker c.put_list.result (seen_fit payer_seen FitsPayer payers) c.put_list.ensures.fits
