-- The last reason is told where no other is found: each other line begins with a node.
use Rattle.std.proofs.Common.{◌≡◌, ℕ, zero, suc, ◌+◌, Bool, true, false, not, ◌==◌, cond, List, [], ◌∷◌, ◌++◌, flat_map, refl, ap, ◌∙◌}
use Rattle.std.specs.Prelude.{codes, length, Option, Some, None}
use Rattle.std.specs.List.{list_all}
use Rattle.std.proofs.lemmas.Bool.{and_parts, and_from}
use Rattle.claim_model.specs.Context.{Context}
use Rattle.claim_model.specs.Logs.{Logged, NodeLog}
use Rattle.claim_model.specs.Node.{Node, Call, Pharmacy, Switch, Payer}
use Rattle.claim_model.specs.Settings.{WorldSettings}
use Rattle.node_log.specs.ExistingNodes.{is_there}
use Rattle.log_audit.specs.Sentences.{node_text}
use Rattle.log_audit.specs.Lacks.{node_line, lack_word, line_of_lack, lack_of, lack_lines, lacks_up_to, kind_node, stranger_lines, strangers, missing_lines}
use Rattle.log_audit.specs.Wrongs.{FirstWrong, wrong_line, line_of_wrong, first_wrong, log_wrongs, wrong_lines}
use Rattle.log_audit.specs.Waits.{Progress, next_of, wait_line, next_lines, held_lines, is_stuck, unordered, waiting_lines}
use Rattle.log_audit.specs.Reasons.{or_else, reasons, NoneFound, LastReason}
use Rattle.log_audit.specs.declared.judging.missing.Lack.{Lack}
use Rattle.log_audit.specs.declared.judging.missing.NodeKind.{NodeKind}
use Rattle.log_audit.specs.declared.judging.missing.NodeKind.TheVariants as kinds

-- a line does not begin as that one
abbrev other : List ℕ → Bool
other [] = true
other (b ∷ more) = not (b == 110)

abbrev AllOther : List (List ℕ) → Type 0
AllOther lines = list_all other lines ≡ true

named : (node : Node) (more : List ℕ) → other (node_text node ++ more) ≡ true
named (Pharmacy n) more = refl
named (Switch n) more = refl
named (Payer n) more = refl

both : (xs ys : List (List ℕ)) → AllOther xs → AllOther ys → AllOther (xs ++ ys)
both [] ys one two = two
both (x ∷ xs) ys one two =
    let parts = and_parts (other x) (list_all other xs) one in
    and_from (other x) (list_all other (xs ++ ys)) parts.0 (both xs ys parts.1 two)

one_is : (line : List ℕ) → other line ≡ true → AllOther (line ∷ [])
one_is line is = and_from (other line) true is refl

each_is : {A : Type 0} (told : A → List (List ℕ)) (xs : List A) → ((x : A) → AllOther (told x)) → AllOther (flat_map told xs)
each_is told [] all = refl
each_is told (x ∷ xs) all = both (told x) (flat_map told xs) (all x) (each_is told xs all)

node_other : (node : Node) (said : List ℕ) → other (node_line node said) ≡ true
node_other (Pharmacy n) said = refl
node_other (Switch n) said = refl
node_other (Payer n) said = refl

lack_other : (node : Node) (lack : Option Lack) → AllOther (line_of_lack node lack)
lack_other node None = refl
lack_other node (Some lack) = one_is (node_line node (lack_word lack)) (node_other node (lack_word lack))

lacks_other : (logs : List NodeLog) (kind : NodeKind) (number : ℕ) → AllOther (lacks_up_to logs kind number)
lacks_other logs kind zero = refl
lacks_other logs kind (suc number) =
    both (lacks_up_to logs kind number) (lack_lines logs (kind_node kind (number + 1))) (lacks_other logs kind number)
    (lack_other (kind_node kind (number + 1)) (lack_of logs (kind_node kind (number + 1))))

stranger_other : (log : NodeLog) (there : Bool) (said : List ℕ) → AllOther (cond there [] (node_line log.node said ∷ []))
stranger_other log true said = refl
stranger_other log false said = one_is (node_line log.node said) (node_other log.node said)

missing_other : (s : WorldSettings) (logs : List NodeLog) → AllOther (missing_lines s logs)
unfolding missing_lines
missing_other s logs =
    let pharmacies = lacks_up_to logs kinds.Pharmacy (length s.pharmacies) in
    let switches = lacks_up_to logs kinds.Switch (length s.switches) in
    let payers = lacks_up_to logs kinds.Payer (length s.payers) in
    both pharmacies (switches ++ (payers ++ strangers s logs)) (lacks_other logs kinds.Pharmacy (length s.pharmacies))
    (both switches (payers ++ strangers s logs) (lacks_other logs kinds.Switch (length s.switches))
    (both payers (strangers s logs) (lacks_other logs kinds.Payer (length s.payers))
    (each_is (stranger_lines s) logs (λ (log : NodeLog). stranger_other log (is_there s log.node) (codes " is no node of these settings")))))

wrong_other : (node : Node) (first : FirstWrong) → other (wrong_line node first) ≡ true
unfolding wrong_line
wrong_other (Pharmacy n) first = refl
wrong_other (Switch n) first = refl
wrong_other (Payer n) first = refl

found_other : (node : Node) (found : Option FirstWrong) → AllOther (line_of_wrong node found)
found_other node None = refl
found_other node (Some first) = one_is (wrong_line node first) (wrong_other node first)

wrongs_other : (ctx : Context) (s : WorldSettings) (logs : List NodeLog) → AllOther (wrong_lines ctx s logs)
wrongs_other ctx s logs = each_is (log_wrongs ctx s) logs (λ (log : NodeLog). found_other log.node (first_wrong ctx s log))

wait_other : (ctx : Context) (all : List Progress) (node : Node) (number : ℕ) (call : Call) → other (wait_line ctx all node number call) ≡ true
unfolding wait_line
wait_other ctx all (Pharmacy n) number call = refl
wait_other ctx all (Switch n) number call = refl
wait_other ctx all (Payer n) number call = refl

next_other : (ctx : Context) (all : List Progress) (p : Progress) (next : Option Logged) → AllOther (next_lines ctx all p next)
next_other ctx all p None = refl
next_other ctx all p (Some r) = one_is (wait_line ctx all p.log.node (p.made + 1) r.call) (wait_other ctx all p.log.node (p.made + 1) r.call)

held_other : (ctx : Context) (all ps : List Progress) → AllOther (flat_map (held_lines ctx all) ps)
held_other ctx all ps = each_is (held_lines ctx all) ps (λ (p : Progress). next_other ctx all p (next_of p))

-- so they are never that line
not_last : (lines : List (List ℕ)) → AllOther lines → lines ≡ unordered → ⊥
not_last [] all is = cc
not_last (line ∷ more) all is =
    let last : list_all other (line ∷ more) ≡ false = ap (λ (ls : List (List ℕ)). list_all other ls) is in
    cc

first_none : (first others : List (List ℕ)) → AllOther first → or_else first others ≡ unordered → (first ≡ []) × (others ≡ unordered)
first_none [] others all is = (refl, is)
first_none (line ∷ more) others all is = absurd (not_last (line ∷ more) all is)

stuck_none : (ctx : Context) (ps : List Progress) (b : Bool) → cond b (flat_map (held_lines ctx ps) ps) unordered ≡ unordered → b ≡ false
stuck_none ctx ps true is = absurd (not_last (flat_map (held_lines ctx ps) ps) (held_other ctx ps ps) is)
stuck_none ctx ps false is = refl

told_last : (ctx : Context) (s : WorldSettings) (logs : List NodeLog) (made : List Progress) → reasons ctx s logs made ≡ unordered → NoneFound ctx s logs made
unfolding reasons waiting_lines
told_last ctx s logs made is =
    let missing = first_none (missing_lines s logs) (or_else (wrong_lines ctx s logs) (waiting_lines ctx made)) (missing_other s logs) is in
    let wrong = first_none (wrong_lines ctx s logs) (waiting_lines ctx made) (wrongs_other ctx s logs) missing.1 in
    record { logs_are = missing.0; made_are = wrong.0; goes_on = stuck_none ctx made (is_stuck made) wrong.1 }

last_told : (ctx : Context) (s : WorldSettings) (logs : List NodeLog) (made : List Progress) → NoneFound ctx s logs made → reasons ctx s logs made ≡ unordered
unfolding reasons waiting_lines
last_told ctx s logs made none =
    ap (λ (ls : List (List ℕ)). or_else ls (or_else (wrong_lines ctx s logs) (waiting_lines ctx made))) none.logs_are
    ∙ (ap (λ (ls : List (List ℕ)). or_else ls (waiting_lines ctx made)) none.made_are
    ∙ ap (λ (b : Bool). cond b (flat_map (held_lines ctx made) made) unordered) none.goes_on)

pub last_reason : LastReason
last_reason ctx s logs made = (told_last ctx s logs made, last_told ctx s logs made)
