-- The log is closed, and the new one begins with what names it.
use Rattle.std.proofs.Common.{◌≡◌, ◌∙◌, inr, ℕ, ◌<◌, ◌^◌, ◌++◌, List, length, take, ap, subst, sym, arith}
use Rattle.std.specs.List.{AllByRecursion}
use Rattle.std.specs.Option.{option_copied}
use Rattle.sha2.specs.Sha256.{sha256}
use Rattle.world_setup.specs.Seen.{node_seen}
use Rattle.kept_logs.specs.Rests.{FitsReference, rest_text}
use Rattle.kept_logs.specs.References.{Reference}
use Rattle.log_turning.specs.declared.turning.Turned.{Turned}
use Rattle.log_turning.specs.Turned.{IsNew}
use Rattle.log_turning.specs.Unturned.{CanGoOn, IsUnturned}
use Rattle.log_turning.proofs.Closing.{goes_on, is_turned, rest_of}
use Rattle.log_turning.proofs.Unturned.{passed}
use Rattle.log_turning.proofs.turning.turn_log.Goals as goal

pub returns-clause-turned : goal.returns-clause-turned
returns-clause-turned c =
    let text = c.args.text.now in
    let node = node_seen c.args.node in
    let rest = option_copied c.args.rest in
    let bytes = c.args.bytes.now in
    let closed = c.in_ok-kept.field-0 in
    let is = c.in_ok-kept.ensures.closed in
    let turned : Turned = record { kept = closed.kept; closing = closed.closing; rest = c.in_ok-begins.begins; log = c.in_ok-log.log; calls = c.in-Some.calls } in
    let front : List ℕ = take closed.kept bytes ++ is.last.records in
    let digest : c.digest_of-digest.result ≡ sha256 front =
    c.digest_of-digest.ensures
    ∙ (ap (λ (some : List ℕ). sha256 (some ++ c.as_slice.result.now)) c.front.ensures
    ∙ ap (λ (more : List ℕ). sha256 (take closed.kept bytes ++ more)) (c.as_slice.ensures.value ∙ is.closing)) in
    let begins : turned.rest.items ≡ rest_text (rest_of node turned.calls front is.last.references closed.record.items) =
    c.in_ok-begins.ensures.text
    ∙ (ap (λ (d : List ℕ). rest_text (record { node = node; calls = turned.calls; closed = d; references = closed.references.items; kept = c.as_slice-2.result.now })) digest
    ∙ (ap (λ (kept : List ℕ). rest_text (rest_of node turned.calls front closed.references.items kept)) c.as_slice-2.ensures.value
    ∙ ap (λ (references : List Reference). rest_text (rest_of node turned.calls front references closed.record.items)) is.referred)) in
    is_turned text node rest bytes turned is.last closed.record.items is.serves is.started is.closing c.in_ok-begins.ensures.node (omega (arith, c.in-Some.ensures))
    (subst (λ (references : List Reference). length references < 2 ^ 64) is.referred c.in_ok-begins.ensures.count)
    (subst (λ (references : List Reference). AllByRecursion FitsReference references) is.referred c.in_ok-begins.ensures.references) begins
    (omega (arith, c.in-Some.ensures, c.in_ok-calls_before.ensures, is.calls))
    (subst (λ (named : List ℕ). IsNew text node named turned.log.items) c.as_slice-3.ensures.value c.in_ok-log.ensures.new)

pub returns-in_default-clause-refused : goal.returns-in_default-clause-refused
returns-in_default-clause-refused c =
    let is = c.in_ok-kept.ensures.closed in
    inr (record { kept = c.in_ok-kept.field-0.kept; last = is.last; serves = is.serves; many = omega (arith, c.in_default.ensures, c.in_ok-calls_before.ensures, is.calls) })

pub returns-in_err-log-clause-refused : goal.returns-in_err-log-clause-refused
returns-in_err-log-clause-refused c =
    let text = c.args.text.now in
    let node = node_seen c.args.node in
    let rest = option_copied c.args.rest in
    let bytes = c.args.bytes.now in
    let closed = c.in_ok-kept.field-0 in
    let is = c.in_ok-kept.ensures.closed in
    let front : List ℕ = take closed.kept bytes ++ is.last.records in
    let digest : c.digest_of-digest.result ≡ sha256 front =
    c.digest_of-digest.ensures
    ∙ (ap (λ (some : List ℕ). sha256 (some ++ c.as_slice.result.now)) c.front.ensures
    ∙ ap (λ (more : List ℕ). sha256 (take closed.kept bytes ++ more)) (c.as_slice.ensures.value ∙ is.closing)) in
    let begins : c.in_ok-begins.begins.items ≡ rest_text (rest_of node c.in-Some.calls front is.last.references closed.record.items) =
    c.in_ok-begins.ensures.text
    ∙ (ap (λ (d : List ℕ). rest_text (record { node = node; calls = c.in-Some.calls; closed = d; references = closed.references.items; kept = c.as_slice-2.result.now })) digest
    ∙ (ap (λ (kept : List ℕ). rest_text (rest_of node c.in-Some.calls front closed.references.items kept)) c.as_slice-2.ensures.value
    ∙ ap (λ (references : List Reference). rest_text (rest_of node c.in-Some.calls front references closed.record.items)) is.referred)) in
    let can : CanGoOn text node c.as_slice-3.result.now = record {
      settings = is.last.settings;
      spells = is.serves.spells;
      begins_with = is.last.state;
      goes_on =
          goes_on node c.in-Some.calls front is.last closed.record.items c.as_slice-3.result.now is.serves.named is.started c.in_ok-begins.ensures.node (omega (arith, c.in-Some.ensures))
          (subst (λ (references : List Reference). length references < 2 ^ 64) is.referred c.in_ok-begins.ensures.count)
          (subst (λ (references : List Reference). AllByRecursion FitsReference references) is.referred c.in_ok-begins.ensures.references)
          (c.as_slice-3.ensures.value ∙ begins);
    } in
    passed c.from_residual-in_err-log.result _ (IsUnturned text node rest bytes) c.from_residual-in_err-log.ensures.1
    (subst (IsUnturned text node rest bytes) (sym (c.in_err-log.ensures.refused can)) tt)
