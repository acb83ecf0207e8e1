-- A log that turned over.
use Rattle.std.proofs.Common.{◌≡◌, ℕ, zero, suc, ◌+◌, ◌<◌, ◌^◌, List, [], ◌++◌, length, take, Option, Some, Result, Ok, Err, IfOk, refl, sym, ap, ◌∙◌, subst, append-nil, inl, inr}
use Rattle.std.specs.Prelude.{OnOk}
use Rattle.std.specs.List.{AllByRecursion}
use Rattle.sha2.specs.Sha256.{sha256, digest_bytes}
use Rattle.claim_model.specs.Node.{Node}
use Rattle.kept_logs.specs.Stamps.{Stamped, KeptLog}
use Rattle.kept_logs.specs.References.{Reference}
use Rattle.world_setup.specs.Seen.{settings_seen}
use Rattle.node_state.specs.Resting.{resumed}
use Rattle.kept_logs.specs.declared.fault.LogFault.{LogFault}
use Rattle.kept_logs.specs.declared.fault.LogFault.TheVariants.{Short}
use Rattle.kept_logs.specs.Fits.{FitsNode}
use Rattle.kept_logs.specs.Logs.{KeptReading, head_in, kept_in}
use Rattle.kept_logs.specs.Rests.{Rest, FitsReference, FitsRest, begins, calls_before, rest_in, rest_text}
use Rattle.kept_logs.proofs.RestsBack.{rest_back, begins_back}
use Rattle.settings_digest.specs.Digests.{turned_in}
use Rattle.node_service.specs.Serving.{Serving}
use Rattle.node_service.specs.Opened.{IsBegun, IsOpened}
use Rattle.node_service.specs.Lines.{IsServing}
use Rattle.node_service.proofs.Lines.{is_opened_serving}
use Rattle.log_turning.specs.declared.turning.Turned.{Turned}
use Rattle.log_turning.specs.Turned.{IsEnd, IsNew, IsStarted, IsTurned, Serves, ServesOn}

-- ---- a node that is opened

pub is_served : (text : List ℕ) (node : Node) (rest : Option (List ℕ)) (bytes : List ℕ) (kept : ℕ) (s : Serving) → IsOpened text node rest bytes kept s → Serves text node rest bytes kept s
is_served text node rest bytes kept s o = record {
  spells = o.spells;
  named = o.named;
  log = o.log;
  own = o.own;
  served = is_opened_serving text node rest bytes kept s o;
  start = s;
  opened = o;
  more = [];
  calls = sym (append-nil o.log.calls);
  ends = tt;
}

-- ---- the new log

none_taken : (n : ℕ) → take n (let none : List ℕ = [] in none) ≡ []
none_taken zero = refl
none_taken (suc n) = refl

pub none_read : (digest : List ℕ) → kept_in digest [] ≡ Err Short
unfolding kept_in head_in
none_read digest = refl

-- a log that is begun from no bytes has no call
none_begun : (digest : List ℕ) (node : Node) (log : KeptLog) (kept : ℕ) (records : List ℕ) → IsBegun digest node [] log kept records → log.calls ≡ []
none_begun digest node log kept records (inl read) = let wrong : ◌≡◌ {A = Result KeptReading LogFault} (Ok (record { log = log; whole = kept })) (Err Short) = sym read.0 ∙ none_read digest in absurd cc
none_begun digest node log kept records (inr begun) = ap (λ (l : KeptLog). l.calls) begun.1.0

pub is_new : (text : List ℕ) (node : Node) (rest : List ℕ) (kept : ℕ) (s : Serving) → Serves text node (Some rest) [] kept s → IsNew text node rest s.records
is_new text node rest kept s is =
    let digest = turned_in text (Some rest) in
    let serves = subst (λ (front : List ℕ). IsServing (Some rest) digest front is.log s) (none_taken kept) is.served in
    let none = none_begun digest node is.opened.log kept is.start.records is.opened.begun in
    let own : is.log.calls ≡ is.more = is.calls ∙ ap (λ (calls : List Stamped). calls ++ is.more) none in
    record { next = s; spelled = is.spells; begun = is.log; same = is.own; ends = subst (AllByRecursion IsEnd) (sym own) is.ends; log_is = serves.text; serves = serves }

pub new_records : {A E : Type 0} (items : A → List ℕ) (r : Result A E) (text : List ℕ) (node : Node) (rest : List ℕ) (kept : ℕ) (s t : Serving) → Serves text node (Some rest) [] kept s → OnOk r (ServesOn s t) → IfOk r (λ records. items records ≡ t.records)
    → IfOk r (λ records. IsNew text node rest (items records))
new_records items (Ok records) text node rest kept s t serves on is = subst (λ (log : List ℕ). IsNew text node rest log) (sym is) (is_new text node rest kept t (on text node (Some rest) [] kept serves))
new_records items (Err why) text node rest kept s t serves on is = tt

-- ---- what it begins with

-- what is left by this node after this many calls, with a log of these bytes after it
abbrev pub rest_of : Node → ℕ → List ℕ → List Reference → List ℕ → Rest
rest_of node calls closed references kept = record { node = node; calls = calls; closed = sha256 closed; references = references; kept = kept }

sum_length : (bytes : List ℕ) → length (sha256 bytes) ≡ 32
unfolding sha256 digest_bytes
sum_length bytes = refl

rest_fits : (node : Node) (calls : ℕ) (closed : List ℕ) (references : List Reference) (kept : List ℕ) → FitsNode node → calls < 2 ^ 64 → length references < 2 ^ 64 → AllByRecursion FitsReference references → FitsRest (rest_of node calls closed references kept)
rest_fits node calls closed references kept fits small few each = record { node = fits; calls = small; closed = sum_length closed; count = few; references = each }

-- from it the settings make the node that left it
pub goes_on : (node : Node) (calls : ℕ) (closed : List ℕ) (s : Serving) (kept begun : List ℕ) → s.node ≡ node → IsStarted s kept → FitsNode node → calls < 2 ^ 64 → length s.references < 2 ^ 64 → AllByRecursion FitsReference s.references
    → begun ≡ rest_text (rest_of node calls closed s.references kept) → begins s.settings node (Some begun) ≡ Some s.state
goes_on node calls closed s kept begun named started fits small few each is =
    let names = rest_of node calls closed s.references kept in
    let own = rest_fits node calls closed s.references kept fits small few each in
    let stands : resumed (settings_seen s.settings) node kept ≡ Some s.state = ap (λ (n : Node). resumed (settings_seen s.settings) n kept) (sym named) ∙ started in
    ap (λ (text : List ℕ). begins s.settings node (Some text)) is ∙ begins_back s.settings names s.state own stands

-- ---- all of it

pub is_turned : (text : List ℕ) (node : Node) (rest : Option (List ℕ)) (bytes : List ℕ) (turned : Turned) (s : Serving) (kept : List ℕ) → Serves text node rest bytes turned.kept s → IsStarted s kept → turned.closing.items ≡ s.records
    → FitsNode node → turned.calls < 2 ^ 64 → length s.references < 2 ^ 64 → AllByRecursion FitsReference s.references → turned.rest.items ≡ rest_text (rest_of node turned.calls (take turned.kept bytes ++ s.records) s.references kept) → turned.calls ≡ calls_before rest + s.calls → IsNew text node turned.rest.items turned.log.items
    → IsTurned text node rest bytes turned
is_turned text node rest bytes turned s kept is started closing fits small few each begins_with counted new =
    let names = rest_of node turned.calls (take turned.kept bytes ++ s.records) s.references kept in
    let own = rest_fits node turned.calls (take turned.kept bytes ++ s.records) s.references kept fits small few each in
    record {
      last = s;
      spells = is.spells;
      closed = is.log;
      own = is.own;
      start = is.start;
      opened = is.opened;
      more = is.more;
      longer = is.calls;
      ends = is.ends;
      file = ap (λ (more : List ℕ). take turned.kept bytes ++ more) closing ∙ is.served.text;
      served = is.served;
      goes_on = goes_on node turned.calls (take turned.kept bytes ++ s.records) s kept turned.rest.items is.named started fits small few each begins_with;
      next = new.next;
      spelled = new.spelled;
      begun = new.begun;
      same = new.same;
      stops = new.ends;
      log = new.log_is;
      serves = new.serves;
      begins_with = names;
      reads = ap rest_in begins_with ∙ rest_back names own;
      digest = ap (λ (more : List ℕ). sha256 (take turned.kept bytes ++ more)) (sym closing);
      calls = refl;
      counted = counted ∙ ap (λ (n : ℕ). calls_before rest + n) is.served.calls;
      referred = refl;
    }
