-- A node that makes the calls of a log as they are read.
use Rattle.std.proofs.Common.{◌≡◌, ℕ, ◌+◌, ◌-◌, ◌<◌, Bool, true, false, List, [], ◌∷◌, ◌++◌, length, Some, None, Result, Ok, Err, refl, sym, ap, ◌∙◌, arith, subst, append_assoc, append-nil, length-append}
use Rattle.claim_model.specs.Context.{Context}
use Rattle.claim_model.specs.Node.{Node, Call, Done}
use Rattle.claim_model.specs.Nodes.{AnyNode, node_step, same_node}
use Rattle.claim_model.specs.Logs.{Logged, node_after, replay, Makes}
use Rattle.node_log.specs.Fits.{TellsMade}
use Rattle.kept_logs.specs.Stamps.{Stamped, bare_calls}
use Rattle.kept_logs.specs.References.{Reference, referred, references_in}
use Rattle.kept_logs.specs.declared.fault.LogFault.{LogFault}
use Rattle.kept_logs.specs.declared.making.MadeCalls.{MadeCalls}
use Rattle.kept_logs.specs.Digests.{version_of}
use Rattle.kept_logs.specs.Logs.{behind, calls_in, head_in, kept_in, record_in, records_in}
use Rattle.kept_logs.specs.Making.{AreMade, AreNotMade, IsMadeAsRead}
use Rattle.claim_model.proofs.Names.{same_is}
use Rattle.kept_logs.proofs.Loops.{calls_begin, calls_taken, calls_cut, calls_stop, calls_all}

-- the calls that were read were made, and with those that are left they are all
pub record MadeSoFar (ctx : Context) (before : AnyNode) (version total : ℕ) (bytes : List ℕ) (node : AnyNode) (references : List Reference) (place : ℕ) (rest : List ℕ) : Type 0 where
  pub calls : List Stamped
  pub same : calls_in version total 1 (length bytes) bytes ≡ behind calls (calls_in version total (place + 1) (length bytes - place) rest)
  pub number : length calls ≡ place
  pub makes : Makes ctx before (bare_calls calls)
  pub leads : node ≡ replay ctx before (bare_calls calls)
  pub named : references ≡ references_in ctx before calls

-- one call more, which a node makes after others, and is then this one
abbrev StepsTo : Context → AnyNode → List Stamped → Stamped → AnyNode → Type 0
StepsTo ctx before calls one after = node_step ctx (replay ctx before (bare_calls calls)) one.logged.call ≡ Done after one.logged.sent

pub replay_more : (ctx : Context) (before after : AnyNode) (calls : List Stamped) (one : Stamped) → StepsTo ctx before calls one after → after ≡ replay ctx before (bare_calls (calls ++ one ∷ []))
replay_more ctx before after [] one e = sym (ap (node_after before) e)
replay_more ctx before after (k ∷ calls) one e = replay_more ctx (node_after before (node_step ctx before k.logged.call)) after calls one e

pub makes_more : (ctx : Context) (before after : AnyNode) (calls : List Stamped) (one : Stamped) → Makes ctx before (bare_calls calls) → StepsTo ctx before calls one after → Makes ctx before (bare_calls (calls ++ one ∷ []))
makes_more ctx before after [] one m e = (e ∙ ap (λ (x : AnyNode). Done x one.logged.sent) (sym (ap (node_after before) e)), tt)
makes_more ctx before after (k ∷ calls) one m e = (m.0, makes_more ctx (node_after before (node_step ctx before k.logged.call)) after calls one m.1 e)

pub references_more : (ctx : Context) (before after : AnyNode) (calls : List Stamped) (one : Stamped) → StepsTo ctx before calls one after
    → references_in ctx before (calls ++ one ∷ []) ≡ references_in ctx before calls ++ referred one.stamp.reference one.logged.call after
references_more ctx before after [] one e =
    append-nil (referred one.stamp.reference one.logged.call (node_after before (node_step ctx before one.logged.call)))
    ∙ ap (λ (x : AnyNode). referred one.stamp.reference one.logged.call x) (ap (node_after before) e)
references_more ctx before after (k ∷ calls) one e =
    let next : AnyNode = node_after before (node_step ctx before k.logged.call) in
    let first : List Reference = referred k.stamp.reference k.logged.call next in
    ap (λ (rs : List Reference). first ++ rs) (references_more ctx next after calls one e) ∙ sym (append_assoc first (references_in ctx next calls) (referred one.stamp.reference one.logged.call after))

pub nothing_made : (ctx : Context) (before : AnyNode) (version total : ℕ) (bytes : List ℕ) (references : List Reference) → references ≡ [] → MadeSoFar ctx before version total bytes before references 0 bytes
nothing_made ctx before version total bytes references none = record {
  calls = [];
  same = calls_begin version total bytes [] refl;
  number = refl;
  makes = tt;
  leads = refl;
  named = none;
}

-- one call more was read, and made, and what it is called was noted
pub one_more_made : (ctx : Context) (before : AnyNode) (version total : ℕ) (bytes : List ℕ) (node next : AnyNode) (references longer : List Reference) (place : ℕ) (rest after : List ℕ) (told : Bool) (one : Logged) (call : Call) (entry : Stamped)
    → MadeSoFar ctx before version total bytes node references place rest → place < length bytes → record_in version (place + 1) (total - length rest) rest ≡ Ok (Some (entry, after)) → one ≡ entry.logged → told ≡ true → TellsMade told ctx node one next
    → call ≡ one.call → longer ≡ references ++ referred entry.stamp.reference call next → MadeSoFar ctx before version total bytes next longer (place + 1) after
one_more_made ctx before version total bytes node next references longer place rest after told one call entry so_far within read same is_made made its noted =
    let step : StepsTo ctx before so_far.calls entry next =
    subst (λ (l : Logged). node_step ctx (replay ctx before (bare_calls so_far.calls)) l.call ≡ Done next l.sent) same
    (subst (λ (n : AnyNode). node_step ctx n one.call ≡ Done next one.sent) so_far.leads (rw is_made at made)) in
    record {
      calls = so_far.calls ++ entry ∷ [];
      same = so_far.same ∙ calls_taken version total (length bytes) place so_far.calls rest entry after within read;
      number = length-append so_far.calls (entry ∷ []) ∙ ap (λ n. n + 1) so_far.number;
      makes = makes_more ctx before next so_far.calls entry so_far.makes step;
      leads = replay_more ctx before next so_far.calls entry step;
      named = noted ∙ ap (λ (c : Call). references ++ referred entry.stamp.reference c next) (its ∙ ap (λ (l : Logged). l.call) same)
          ∙ ap (λ (rs : List Reference). rs ++ referred entry.stamp.reference entry.logged.call next) so_far.named ∙ sym (references_more ctx before next so_far.calls entry step);
    }

-- the record that stands here is cut off, so all were read
pub cut_off_here : (ctx : Context) (before : AnyNode) (version total : ℕ) (bytes : List ℕ) (node : AnyNode) (references : List Reference) (place : ℕ) (rest : List ℕ)
    → MadeSoFar ctx before version total bytes node references place rest → place < length bytes → record_in version (place + 1) (total - length rest) rest ≡ Ok None → AreMade ctx before version total bytes node place (length rest) references
cut_off_here ctx before version total bytes node references place rest so_far within read = record {
  calls = so_far.calls;
  rest = rest;
  read = so_far.same ∙ calls_cut version total (length bytes) place so_far.calls rest within read;
  left_behind = refl;
  number = so_far.number;
  makes = so_far.makes;
  leads = so_far.leads;
  referred = so_far.named;
}

-- as many records were read as there can be
pub all_made : (ctx : Context) (before : AnyNode) (version total : ℕ) (bytes : List ℕ) (node : AnyNode) (references : List Reference) (place : ℕ) (rest : List ℕ)
    → MadeSoFar ctx before version total bytes node references place rest → place ≡ length bytes → AreMade ctx before version total bytes node (length bytes) (length rest) references
all_made ctx before version total bytes node references place rest so_far over = record {
  calls = so_far.calls;
  rest = rest;
  read = so_far.same ∙ calls_all version total (length bytes) place so_far.calls rest (omega (arith, over));
  left_behind = refl;
  number = so_far.number ∙ over;
  makes = so_far.makes;
  leads = so_far.leads;
  referred = so_far.named;
}

-- a call that a node does not make after those that it made: it does not make them all
stops : (ctx : Context) (before : AnyNode) (calls : List Stamped) (one : Stamped) (more : List Stamped) → ((after : AnyNode) → StepsTo ctx before calls one after → ⊥) → Makes ctx before (bare_calls ((calls ++ one ∷ []) ++ more)) → ⊥
stops ctx before [] one more none m = none (node_after before (node_step ctx before one.logged.call)) m.0
stops ctx before (k ∷ calls) one more none m = stops ctx (node_after before (node_step ctx before k.logged.call)) calls one more none m.1

none_of_all : (ctx : Context) (before : AnyNode) (calls : List Stamped) (one : Stamped) (reading : Result (List Stamped × List ℕ) LogFault)
    → ((after : AnyNode) → StepsTo ctx before calls one after → ⊥) → AreNotMade ctx before (behind (calls ++ one ∷ []) reading)
none_of_all ctx before calls one (Ok read) none = λ m. stops ctx before calls one read.0 none m
none_of_all ctx before calls one (Err why) none = tt

-- the call that was read is not made
pub not_made_here : (ctx : Context) (before : AnyNode) (version total : ℕ) (bytes : List ℕ) (node next : AnyNode) (references : List Reference) (place : ℕ) (rest after : List ℕ) (told : Bool) (one : Logged) (entry : Stamped)
    → MadeSoFar ctx before version total bytes node references place rest → place < length bytes → record_in version (place + 1) (total - length rest) rest ≡ Ok (Some (entry, after)) → one ≡ entry.logged → told ≡ false → TellsMade told ctx node one next
    → AreNotMade ctx before (records_in version total bytes)
not_made_here ctx before version total bytes node next references place rest after told one entry so_far within read same not_made made =
    let none : (to : AnyNode) → node_step ctx node one.call ≡ Done to one.sent → ⊥ = rw not_made at made in
    let here : (to : AnyNode) → StepsTo ctx before so_far.calls entry to → ⊥ =
    subst (λ (l : Logged). (to : AnyNode) → node_step ctx (replay ctx before (bare_calls so_far.calls)) l.call ≡ Done to l.sent → ⊥) same
    (subst (λ (n : AnyNode). (to : AnyNode) → node_step ctx n one.call ≡ Done to one.sent → ⊥) so_far.leads none) in
    subst (AreNotMade ctx before) (sym (so_far.same ∙ calls_taken version total (length bytes) place so_far.calls rest entry after within read))
    (none_of_all ctx before so_far.calls entry (calls_in version total (place + 1 + 1) (length bytes - (place + 1)) after) here)

-- what stands here is no record
pub no_record_here : (ctx : Context) (before : AnyNode) (version total : ℕ) (bytes : List ℕ) (node : AnyNode) (references : List Reference) (place : ℕ) (rest : List ℕ) (why : LogFault)
    → MadeSoFar ctx before version total bytes node references place rest → place < length bytes → record_in version (place + 1) (total - length rest) rest ≡ Err why → AreNotMade ctx before (records_in version total bytes)
no_record_here ctx before version total bytes node references place rest why so_far within read =
    subst (AreNotMade ctx before) (sym (so_far.same ∙ calls_stop version total (length bytes) place so_far.calls rest why within read)) tt

-- after a head of this node, and calls that it makes, bytes are its log
pub made_as_read : (ctx : Context) (state : AnyNode) (version : ℕ) (digest : List ℕ) (own node : Node) (bytes records : List ℕ) (made : MadeCalls) (whole : ℕ) → version ≡ version_of digest
    → head_in digest bytes ≡ Ok (own, records) → same_node own node ≡ true → AreMade ctx state version (length bytes) records made.node made.calls made.torn made.references.items → whole ≡ length bytes - made.torn
    → IsMadeAsRead ctx state digest node bytes (record { node = made.node; calls = made.calls; references = made.references; whole = whole })
unfolding kept_in
made_as_read ctx state version digest own node bytes records made whole known head same are_so left =
    let are : AreMade ctx state (version_of digest) (length bytes) records made.node made.calls made.torn made.references.items =
    subst (λ v. AreMade ctx state v (length bytes) records made.node made.calls made.torn made.references.items) known are_so in
    record {
      log = record { node = own; calls = are.calls };
      own = same_is own node same;
      read = rw (head, are.read) (ap (λ n. Ok (record { log = record { node = own; calls = are.calls }; whole = n })) (ap (λ n. length bytes - n) are.left_behind ∙ sym left));
      count = are.number;
      makes = are.makes;
      leads = are.leads;
      referred = are.referred;
    }
