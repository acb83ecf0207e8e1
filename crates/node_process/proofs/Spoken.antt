-- The lines that are written of an input, and the packets among them.
use Rattle.std.proofs.Common.{◌≡◌, ℕ, zero, suc, ◌+◌, Bool, true, false, cond, List, [], ◌∷◌, ◌++◌, length, map, take, drop, Option, Some, None, refl, sym, ap, ◌∙◌, subst, arith, append_assoc, append-nil}
use Rattle.std.proofs.lemmas.List.{map-append, take-append-drop}
use Rattle.std.proofs.lemmas.Grind.{flat_map-append}
use Rattle.std.specs.Prelude.{bytes_eq, codes, flat_map}
use Rattle.std.specs.List.{AllByRecursion}
use Rattle.claim_model.specs.Node.{Node, Call, Submit, Tick, Take, Stop, Start, Revise, Adjudicate, Sent, Outcome, Done, Refused}
use Rattle.claim_model.specs.Nodes.{AnyNode, node_step}
use Rattle.claim_model.specs.Numbered.{numbered}
use Rattle.claim_model.specs.World.{Packet, packet_from}
use Rattle.claim_model.specs.Logs.{Logged, posted_by}
use Rattle.claim_model.proofs.Lists.{all_append, all_weaker, numbered_append}
use Rattle.crash_safety.specs.Runs.{IsAmong}
use Rattle.claim_model.specs.Refusal.{refusal_name}
use Rattle.world_setup.specs.Seen.{call_seen}
use Rattle.node_logged.specs.Setting.{context_of}
use Rattle.node_state.specs.Nodes.{request_of}
use Rattle.kept_logs.specs.Stamps.{Stamp, bare_calls}
use Rattle.node_service.specs.Asking.{Asked, Calls, Tells as Asks, asked_of}
use Rattle.node_service.specs.Answering.{idle_line, known_line, refused_line, sent_line, sent_lines}
use Rattle.node_service.specs.Serving.{Serving, saying, after_call, again, again_line, is_idle_call, known, making, making_once, after_asked, after_line, last_line, told_of}
use Rattle.node_service.specs.Lines.{after_lines, kept_call, kept_making, kept_once, kept_asked, line_calls, lines_calls}
use Rattle.node_process.specs.Heard.{whole_lines}
use Rattle.node_process.specs.Safe.{greeting, IsStartOf, words_of}
use Rattle.node_process.specs.Histories.{Word, Sends, Tells, word_text, SendsNothing, IsReady, IsRefused, IsNoLine, IsReused, IsLast, IsIdle, IsKnown, IsTold, IsWordOf, IsToldBy}

-- ---- packets of more calls

pub sends_more : (node : Node) (log more : List Logged) → posted_by node (log ++ more) ≡ posted_by node log ++ posted_by node more
sends_more node log more =
    ap (map (packet_from node)) (flat_map-append (λ (l : Logged). l.sent) log more) ∙ map-append (packet_from node) (flat_map (λ (l : Logged). l.sent) log) (flat_map (λ (l : Logged). l.sent) more)

numbered_behind : {A : Type 0} (xs ys : List A) (n : ℕ) (a : A) → numbered ys n ≡ Some a → numbered (xs ++ ys) (length xs + n) ≡ Some a
numbered_behind {A} [] ys n a e = let same : n ≡ 0 + n = omega arith in subst (λ (m : ℕ). numbered ys m ≡ Some a) same e
numbered_behind {A} (x ∷ xs) ys zero a e = absurd cc
numbered_behind {A} (x ∷ xs) ys (suc n) a e =
    let inner = numbered_behind xs ys (suc n) a e in
    let further : suc (length xs) + suc n ≡ suc (suc (length xs + n)) = omega arith in
    let own : length xs + suc n ≡ suc (length xs + n) = omega arith in
    subst (λ (m : ℕ). numbered (x ∷ (xs ++ ys)) m ≡ Some a) (sym further) (subst (λ (m : ℕ). numbered (xs ++ ys) m ≡ Some a) own inner)

among_front : (node : Node) (log more : List Logged) (p : Packet) → IsAmong (posted_by node log) p → IsAmong (posted_by node (log ++ more)) p
among_front node log more p a =
    record { number = a.number; is = ap (λ (ps : List Packet). numbered ps a.number) (sends_more node log more) ∙ numbered_append (posted_by node log) (posted_by node more) a.number p a.is }

among_behind : (node : Node) (before log : List Logged) (p : Packet) → IsAmong (posted_by node log) p → IsAmong (posted_by node (before ++ log)) p
among_behind node before log p a =
    record {
      number = length (posted_by node before) + a.number;
      is = ap (λ (ps : List Packet). numbered ps (length (posted_by node before) + a.number)) (sends_more node before log) ∙ numbered_behind (posted_by node before) (posted_by node log) a.number p a.is;
    }

word_front : (node : Node) (log more : List Logged) (w : Word) → IsWordOf node log w → IsWordOf node (log ++ more) w
word_front node log more (Sends sent) a = among_front node log more (packet_from node sent) a
word_front node log more (Tells text) a = a

word_behind : (node : Node) (before log : List Logged) (w : Word) → IsWordOf node log w → IsWordOf node (before ++ log) w
word_behind node before log (Sends sent) a = among_behind node before log (packet_from node sent) a
word_behind node before log (Tells text) a = a

-- ---- the lines of one call

-- each packet of a call is among those that the call posted
each_sent : (node : Node) (call : Call) (sent : List Sent) → AllByRecursion (IsWordOf node (record { call = call; sent = sent } ∷ [])) (map Sends sent)
each_sent node call sent = by_place [] sent
  where
    by_place : (before left : List Sent) → AllByRecursion (IsWordOf node (record { call = call; sent = before ++ left } ∷ [])) (map Sends left)
    by_place before [] = tt
    by_place before (one ∷ left) =
        let here : numbered (map (packet_from node) (before ++ one ∷ left)) (length (map (packet_from node) before) + 1) ≡ Some (packet_from node one) =
        ap (λ (ps : List Packet). numbered ps (length (map (packet_from node) before) + 1)) (map-append (packet_from node) before (one ∷ left))
        ∙ numbered_behind (map (packet_from node) before) (packet_from node one ∷ map (packet_from node) left) 1 (packet_from node one) refl in
        let all : posted_by node (record { call = call; sent = before ++ one ∷ left } ∷ []) ≡ map (packet_from node) (before ++ one ∷ left) = ap (map (packet_from node)) (append-nil (before ++ one ∷ left)) in (
          record { number = length (map (packet_from node) before) + 1; is = ap (λ (ps : List Packet). numbered ps (length (map (packet_from node) before) + 1)) all ∙ here },
          subst (λ (sent : List Sent). AllByRecursion (IsWordOf node (record { call = call; sent = sent } ∷ [])) (map Sends left)) (append_assoc before (one ∷ []) left)
              (by_place (before ++ one ∷ []) left),
        )

sent_text : (sent : List Sent) → flat_map word_text (map Sends sent) ≡ sent_lines sent
unfolding sent_lines
sent_text [] = refl
sent_text (one ∷ sent) = ap (λ (t : List ℕ). sent_line one ++ t) (sent_text sent)

-- ---- the lines of lines

-- what a node writes, in words
pub record IsSpoken (node : Node) (calls : List Logged) (old new : List ℕ) : Type 0 where
  pub words : List Word
  pub each : AllByRecursion (IsWordOf node calls) words
  pub is : new ≡ old ++ flat_map word_text words

one_word : (node : Node) (calls : List Logged) (old text : List ℕ) → SendsNothing text → IsSpoken node calls old (old ++ text)
one_word node calls old text nothing = record { words = Tells text ∷ []; each = (nothing, tt); is = ap (λ (t : List ℕ). old ++ t) (sym (append-nil text)) }

no_word : (node : Node) (calls : List Logged) (old : List ℕ) → IsSpoken node calls old (old ++ [])
no_word node calls old = record { words = []; each = tt; is = refl }

call_spoken : (node : Node) (s : Serving) (stamp : Stamp) (call : Call) (o : Outcome AnyNode) → IsSpoken node (bare_calls (kept_call stamp call o)) s.out (after_call s stamp call o).out
unfolding after_call
call_spoken node s stamp call (Done next sent) =
    let last = last_line call next in
    record {
      words = map Sends sent ++ Tells last ∷ [];
      each = all_append (IsWordOf node (record { call = call; sent = sent } ∷ [])) (map Sends sent) (Tells last ∷ []) (each_sent node call sent) (IsLast call next refl, tt);
      is = ap (λ (t : List ℕ). s.out ++ t)
          (sym (flat_map-append word_text (map Sends sent) (Tells last ∷ [])
          ∙ (ap (λ (t : List ℕ). t ++ flat_map word_text (Tells last ∷ [])) (sent_text sent) ∙ ap (λ (t : List ℕ). sent_lines sent ++ t) (append-nil last))));
    }
call_spoken node s stamp call (Refused why) = one_word node [] s.out (refused_line (refusal_name why)) (IsRefused why refl)

-- of a tick that changes nothing that is said
making_spoken : (node : Node) (s : Serving) (stamp : Stamp) (call : Call) → IsSpoken node (bare_calls (kept_making s stamp call)) s.out (making s stamp call).out
making_spoken node s stamp call = by_idle (is_idle_call s.state call)
  where
    outcome : Outcome AnyNode
    outcome = node_step (context_of s.settings) s.state call

    by_idle : (idle : Bool) → IsSpoken node (bare_calls (cond idle [] (kept_call stamp call outcome))) s.out (cond idle (saying s idle_line) (after_call s stamp call outcome)).out
    by_idle true = one_word node [] s.out idle_line (IsIdle refl)
    by_idle false = call_spoken node s stamp call outcome

-- the number is told again, or that its reference has another request
again_spoken : (node : Node) (old : List ℕ) (number : ℕ) (text : List ℕ) (request : Option (List ℕ)) → IsSpoken node [] old (old ++ again_line number text request)
again_spoken node old number text None = one_word node [] old (refused_line (codes "ReferenceReused")) (IsReused refl)
again_spoken node old number text (Some request) = by_request (bytes_eq request text)
  where
    by_request : (same : Bool) → IsSpoken node [] old (old ++ cond same (known_line number) (refused_line (codes "ReferenceReused")))
    by_request true = one_word node [] old (known_line number) (IsKnown number refl)
    by_request false = one_word node [] old (refused_line (codes "ReferenceReused")) (IsReused refl)

known_spoken : (node : Node) (s : Serving) (call : Call) (number : ℕ) → IsSpoken node [] s.out (s.out ++ again s.state call number)
known_spoken node s (Submit text) number = again_spoken node s.out number text (request_of s.state number)
known_spoken node s Tick number = no_word node [] s.out
known_spoken node s (Take from bytes) number = no_word node [] s.out
known_spoken node s Stop number = no_word node [] s.out
known_spoken node s Start number = no_word node [] s.out
known_spoken node s (Revise change) number = no_word node [] s.out
known_spoken node s (Adjudicate from bytes advice) number = no_word node [] s.out

once_spoken : (node : Node) (s : Serving) (stamp : Stamp) (call : Call) (o : Option ℕ) → IsSpoken node (bare_calls (kept_once s stamp call o)) s.out (making_once s stamp call o).out
once_spoken node s stamp call (Some number) = known_spoken node s call number
once_spoken node s stamp call None = making_spoken node s stamp call

asked_spoken : (node : Node) (s : Serving) (a : Option Asked) → IsSpoken node (bare_calls (kept_asked s a)) s.out (after_asked s a).out
asked_spoken node s None = one_word node [] s.out (refused_line (codes "Line")) (IsNoLine refl)
asked_spoken node s (Some (Calls n)) = once_spoken node s n.stamp (call_seen n.call) (known s.references n.stamp.reference (call_seen n.call))
asked_spoken node s (Some (Asks question)) =
    let text = told_of (context_of s.settings) s.state s.node question in
    one_word node [] s.out text (IsTold (context_of s.settings) s.state s.node (Asks question) refl)

line_spoken : (node : Node) (s : Serving) (line : List ℕ) → IsSpoken node (line_calls s line) s.out (after_line s line).out
unfolding after_line
line_spoken node s line = asked_spoken node s (asked_of line)

pub lines_spoken : (node : Node) (s : Serving) (lines : List (List ℕ)) → IsSpoken node (lines_calls s lines) s.out (after_lines s lines).out
lines_spoken node s [] = record { words = []; each = tt; is = sym (append-nil s.out) }
lines_spoken node s (line ∷ lines) =
    let one = line_spoken node s line in
    let more = lines_spoken node (after_line s line) lines in
    let a = line_calls s line in
    let b = lines_calls (after_line s line) lines in
    record {
      words = one.words ++ more.words;
      each = all_append (IsWordOf node (a ++ b)) one.words more.words (all_weaker (IsWordOf node a) (IsWordOf node (a ++ b)) (word_front node a b) one.words one.each) (all_weaker (IsWordOf node b) (IsWordOf node (a ++ b)) (word_behind node a b) more.words more.each);
      is = more.is
          ∙ (ap (λ (t : List ℕ). t ++ flat_map word_text more.words) one.is
          ∙ (append_assoc s.out (flat_map word_text one.words) (flat_map word_text more.words) ∙ ap (λ (t : List ℕ). s.out ++ t) (sym (flat_map-append word_text one.words more.words))));
    }

-- what begins the words of an input is told by calls that begin with those of the log and the input
pub told_by : (node : Node) (before : ℕ) (start : Serving) (input text : List ℕ) (log synced : List Logged) (k : ℕ) → start.out ≡ [] → log ++ lines_calls start (whole_lines input) ≡ take k synced
    → IsStartOf text (words_of before start input) → IsToldBy node synced text
told_by node before start input text log synced k silent are begins =
    let calls = lines_calls start (whole_lines input) in
    let spoken = lines_spoken node start (whole_lines input) in
    let ready = greeting before start.calls in
    let all : (log ++ calls) ++ drop k synced ≡ synced = ap (λ (x : List Logged). x ++ drop k synced) are ∙ take-append-drop k synced in
    record {
      words = Tells ready ∷ spoken.words;
      each = (
        IsReady before start.calls refl,
        subst (λ (x : List Logged). AllByRecursion (IsWordOf node x) spoken.words) all
            (all_weaker (IsWordOf node (log ++ calls)) (IsWordOf node ((log ++ calls) ++ drop k synced)) (word_front node (log ++ calls) (drop k synced)) spoken.words
            (all_weaker (IsWordOf node calls) (IsWordOf node (log ++ calls)) (word_behind node log calls) spoken.words spoken.each)),
      );
      spelled = subst (IsStartOf text) (ap (λ (t : List ℕ). ready ++ t) (spoken.is ∙ ap (λ (t : List ℕ). t ++ flat_map word_text spoken.words) silent)) begins;
    }

pub told_nothing : (node : Node) (synced : List Logged) (text : List ℕ) → text ≡ [] → IsToldBy node synced text
told_nothing node synced text none = record { words = []; each = tt; spelled = record { rest = []; is = ap (λ (t : List ℕ). t ++ []) none } }

-- and still is by more calls
pub told_still : (node : Node) (synced more : List Logged) (text : List ℕ) → IsToldBy node synced text → IsToldBy node (synced ++ more) text
told_still node synced more text t =
    record { words = t.words; each = all_weaker (IsWordOf node synced) (IsWordOf node (synced ++ more)) (word_front node synced more) t.words t.each; spelled = t.spelled }
