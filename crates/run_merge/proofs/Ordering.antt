-- Orders of calls: one event more, what was done, and that a stuck order is a finished one where there is any.
use Rattle.std.proofs.Common.{◌≡◌, ℕ, zero, suc, true, false, cond, List, [], ◌∷◌, ◌++◌, map, Option, Some, None, refl, sym, ap, ◌∙◌, subst, inl, inr}
use Rattle.std.specs.Prelude.{option_map}
use Rattle.std.proofs.lemmas.Bool.{cond-true, cond-false}
use Rattle.claim_model.specs.Numbered.{numbered}
use Rattle.claim_model.specs.Node.{Node}
use Rattle.claim_model.specs.World.{Packet, Event, Submission, Ticking, Delivery, Stopping, Starting, Revising, Adjudication, packet_from, posted}
use Rattle.claim_model.specs.Nodes.{same_node, Asked, taking, adjudicating, asked}
use Rattle.claim_model.specs.Logs.{Logged}
use Rattle.run_merge.specs.Order.{advanced, Asks, Leads, Stuck, none_left}
use Rattle.claim_model.proofs.Lists.{numbered_append}
use Rattle.run_merge.proofs.Names.{name_cases, numbered_behind, numbered_split}

-- rests that agree at each node are equal
pub each_node : (rest left : Node → List Logged) → ((m : Node) → rest m ≡ left m) → rest ≡ left
each_node rest left h = λ i. λ m. h m i

pub advanced_same : (rest : Node → List Logged) (node m : Node) (calls : List Logged) → same_node node m ≡ true → advanced rest node calls m ≡ calls
advanced_same rest node m calls h = cond-true (same_node node m) calls (rest m) h

pub advanced_other : (rest : Node → List Logged) (node m : Node) (calls : List Logged) → same_node node m ≡ false → advanced rest node calls m ≡ rest m
advanced_other rest node m calls h = cond-false (same_node node m) calls (rest m) h

-- one event more
pub leads_more : (packets : List Packet) (rest : Node → List Logged) (es : List Event) (sent : List Packet) (left : Node → List Logged) (e : Event) (node : Node) (r : Logged) (calls : List Logged) (after : Node → List Logged)
    → Leads packets rest es sent left → Asks sent e node r → left node ≡ r ∷ calls → ((m : Node) → after m ≡ advanced left node calls m)
    → Leads packets rest (es ++ e ∷ []) (posted sent node r.sent) after
leads_more packets rest [] sent left e node r calls after l a h f =
    let eq : left ≡ rest = each_node left rest l.1 in
    (node, r, calls, subst (λ ps. Asks ps e node r) l.0 a, sym (l.1 node) ∙ h, (ap (λ ps. posted ps node r.sent) l.0, λ m. f m ∙ ap (λ (x : Node → List Logged). advanced x node calls m) eq))
leads_more packets rest (x ∷ es) sent left e node r calls after l a h f =
    (l.0, l.1, l.2, l.3, l.4, leads_more (posted packets l.0 l.1.sent) (advanced rest l.0 l.2) es sent left e node r calls after l.5 a h f)

-- packets that stand among others

abbrev pub IsIn : Packet → List Packet → Type 0
IsIn p packets = (k : ℕ) × (numbered packets k ≡ Some p)

abbrev pub AllIn : List Packet → List Packet → Type 0
AllIn few many = (k : ℕ) (p : Packet) → numbered few k ≡ Some p → IsIn p many

-- what a node sent with these calls
abbrev pub packets_of : Node → List Logged → List Packet
packets_of node [] = []
packets_of node (r ∷ more) = map (packet_from node) r.sent ++ packets_of node more

no_packets : (many : List Packet) → AllIn [] many
no_packets many zero p h = absurd cc
no_packets many (suc k) p h = absurd cc

pub both_in : (xs ys many : List Packet) → AllIn xs many → AllIn ys many → AllIn (xs ++ ys) many
both_in xs ys many f g k p h = elim (numbered_split xs ys k p h) [ inl r ↦ f r.0 p r.1 | inr r ↦ g r.0 p r.1 ]

pub first_in : (xs ys many : List Packet) → AllIn (xs ++ ys) many → AllIn xs many
first_in xs ys many f k p h = f k p (numbered_append xs ys k p h)

pub second_in : (xs ys many : List Packet) → AllIn (xs ++ ys) many → AllIn ys many
second_in xs ys many f k p h = let r = numbered_behind xs ys k p h in f r.0 p r.1

-- what was done

-- what was made of each node's calls; all packets of before, and all that these calls sent, are there
pub record History (packets : List Packet) (rest : Node → List Logged) (sent : List Packet) (left : Node → List Logged) : Type 0 where
  pub made : Node → List Logged
  pub splits : (m : Node) → rest m ≡ made m ++ left m
  pub old : AllIn packets sent
  pub new : (m : Node) → AllIn (packets_of m (made m)) sent

abbrev made_too : (Node → List Logged) → Node → Logged → Node → List Logged
made_too made node r m = cond (same_node node m) (r ∷ made m) (made m)

made_splits : (rest left made : Node → List Logged) (node : Node) (r : Logged) (calls : List Logged) → rest node ≡ r ∷ calls → ((m : Node) → advanced rest node calls m ≡ made m ++ left m)
    → (m : Node) → rest m ≡ made_too made node r m ++ left m
made_splits rest left made node r calls h f m = elim (name_cases node m) [
  | inl s ↦
      let a : rest m ≡ r ∷ calls = ap rest (sym s.0) ∙ h in
      let b : calls ≡ made m ++ left m = sym (advanced_same rest node m calls s.1) ∙ f m in
      let c : made_too made node r m ≡ r ∷ made m = cond-true (same_node node m) (r ∷ made m) (made m) s.1 in
      a ∙ (ap (λ (x : List Logged). r ∷ x) b ∙ ap (λ (x : List Logged). x ++ left m) (sym c))
  | inr d ↦
      let b : rest m ≡ made m ++ left m = sym (advanced_other rest node m calls d) ∙ f m in
      let c : made_too made node r m ≡ made m = cond-false (same_node node m) (r ∷ made m) (made m) d in
      b ∙ ap (λ (x : List Logged). x ++ left m) (sym c)
]

made_new : (sent : List Packet) (made : Node → List Logged) (node : Node) (r : Logged) → AllIn (map (packet_from node) r.sent) sent → ((m : Node) → AllIn (packets_of m (made m)) sent)
    → (m : Node) → AllIn (packets_of m (made_too made node r m)) sent
made_new sent made node r a f m = elim (name_cases node m) [
  | inl s ↦
      let c : made_too made node r m ≡ r ∷ made m = cond-true (same_node node m) (r ∷ made m) (made m) s.1 in
      let b : AllIn (map (packet_from m) r.sent) sent = subst (λ x. AllIn (map (packet_from x) r.sent) sent) s.0 a in
      subst (λ x. AllIn (packets_of m x) sent) (sym c) (both_in (map (packet_from m) r.sent) (packets_of m (made m)) sent b (f m))
  | inr d ↦
      let c : made_too made node r m ≡ made m = cond-false (same_node node m) (r ∷ made m) (made m) d in
      subst (λ x. AllIn (packets_of m x) sent) (sym c) (f m)
]

pub history : (packets : List Packet) (rest : Node → List Logged) (es : List Event) (sent : List Packet) (left : Node → List Logged) → Leads packets rest es sent left → History packets rest sent left
history packets rest [] sent left l =
    record {
      made = none_left;
      splits = λ m. sym (l.1 m);
      old = λ k p h. (k, subst (λ ps. numbered ps k ≡ Some p) (sym l.0) h);
      new = λ m. no_packets sent;
    }
history packets rest (e ∷ es) sent left l =
    let i = history (posted packets l.0 l.1.sent) (advanced rest l.0 l.2) es sent left l.5 in
    record {
      made = made_too i.made l.0 l.1;
      splits = made_splits rest left i.made l.0 l.1 l.2 l.4 i.splits;
      old = first_in packets (map (packet_from l.0) l.1.sent) sent i.old;
      new = made_new sent i.made l.0 l.1 (second_in packets (map (packet_from l.0) l.1.sent) sent i.old) i.new;
    }

-- packets are never used up

stays_delivery : (k : ℕ) (packets many : List Packet) (a : Asked) (o : Option Packet) → AllIn packets many → numbered packets k ≡ o → option_map taking o ≡ Some a → (f : Event) × (asked many f ≡ Some a)
stays_delivery k packets many a None all is h = absurd cc
stays_delivery k packets many a (Some p) all is h = let r = all k p is in (Delivery r.0, ap (option_map taking) r.1 ∙ h)

stays_adjudication : (k : ℕ) (advice : List ℕ) (packets many : List Packet) (a : Asked) (o : Option Packet) → AllIn packets many → numbered packets k ≡ o → option_map (adjudicating advice) o ≡ Some a
    → (f : Event) × (asked many f ≡ Some a)
stays_adjudication k advice packets many a None all is h = absurd cc
stays_adjudication k advice packets many a (Some p) all is h = let r = all k p is in (Adjudication r.0 advice, ap (option_map (adjudicating advice)) r.1 ∙ h)

-- a call that an event makes stays one that an event makes, where more packets were sent, in whatever order
pub stays : (packets many : List Packet) (e : Event) (a : Asked) → AllIn packets many → asked packets e ≡ Some a → (f : Event) × (asked many f ≡ Some a)
stays packets many (Submission n text) a all h = (Submission n text, h)
stays packets many (Ticking n) a all h = (Ticking n, h)
stays packets many (Delivery k) a all h = stays_delivery k packets many a (numbered packets k) all refl h
stays packets many (Stopping node) a all h = (Stopping node, h)
stays packets many (Starting node) a all h = (Starting node, h)
stays packets many (Revising n change) a all h = (Revising n change, h)
stays packets many (Adjudication k advice) a all h = stays_adjudication k advice packets many a (numbered packets k) all refl h

-- a stuck order is finished, where any order is

nothing_behind : (xs ys : List Logged) → [] ≡ xs ++ ys → ys ≡ []
nothing_behind [] ys h = sym h
nothing_behind (x ∷ xs) ys h = absurd cc

abbrev less : (Node → List Logged) → Node → List Logged → Node → List Logged
less extra node calls m = cond (same_node node m) calls (extra m)

less_splits : (rest left extra : Node → List Logged) (node : Node) (calls fewer : List Logged) → calls ≡ fewer ++ left node → ((m : Node) → rest m ≡ extra m ++ left m)
    → (m : Node) → advanced rest node calls m ≡ less extra node fewer m ++ left m
less_splits rest left extra node calls fewer h f m = elim (name_cases node m) [
  | inl s ↦
      let a = advanced_same rest node m calls s.1 in
      let b : less extra node fewer m ≡ fewer = cond-true (same_node node m) fewer (extra m) s.1 in
      let c : calls ≡ fewer ++ left m = subst (λ x. calls ≡ fewer ++ left x) s.0 h in
      a ∙ (c ∙ ap (λ (x : List Logged). x ++ left m) (sym b))
  | inr d ↦
      let a = advanced_other rest node m calls d in
      let b : less extra node fewer m ≡ extra m = cond-false (same_node node m) fewer (extra m) d in
      a ∙ (f m ∙ ap (λ (x : List Logged). x ++ left m) (sym b))
]

less_new : (many : List Packet) (extra : Node → List Logged) (node : Node) (fewer : List Logged) → AllIn (packets_of node fewer) many → ((m : Node) → AllIn (packets_of m (extra m)) many)
    → (m : Node) → AllIn (packets_of m (less extra node fewer m)) many
less_new many extra node fewer a f m = elim (name_cases node m) [
  | inl s ↦
      let b : less extra node fewer m ≡ fewer = cond-true (same_node node m) fewer (extra m) s.1 in
      let c : AllIn (packets_of m fewer) many = subst (λ x. AllIn (packets_of x fewer) many) s.0 a in
      subst (λ x. AllIn (packets_of m x) many) (sym b) c
  | inr d ↦
      let b : less extra node fewer m ≡ extra m = cond-false (same_node node m) fewer (extra m) d in
      subst (λ x. AllIn (packets_of m x) many) (sym b) (f m)
]

-- one event of a finished order, inside a stuck one that did at least as much
walks : (many : List Packet) (left : Node → List Logged) → Stuck many left → (packets : List Packet) (rest : Node → List Logged) (e : Event) (extra : Node → List Logged) (node : Node) (r : Logged) (calls : List Logged) (m : Node)
    → Asks packets e node r → rest node ≡ r ∷ calls → ((x : Node) → rest x ≡ extra x ++ left x) → AllIn packets many → ((x : Node) → AllIn (packets_of x (extra x)) many)
    → ((fewer : Node → List Logged) → ((x : Node) → advanced rest node calls x ≡ fewer x ++ left x) → AllIn (posted packets node r.sent) many → ((x : Node) → AllIn (packets_of x (fewer x)) many) → left m ≡ [])
    → (made : List Logged) → extra node ≡ made → left m ≡ []
walks many left stuck packets rest e extra node r calls m asks head splits old new goes_on [] is =
    let h : left node ≡ r ∷ calls = ap (λ (x : List Logged). x ++ left node) (sym is) ∙ (sym (splits node) ∙ head) in
    let f = stays packets many e (record { node = node; call = r.call }) old asks.0 in
    absurd (stuck node r calls h f.0 (f.1, asks.1))
walks many left stuck packets rest e extra node r calls m asks head splits old new goes_on (q ∷ fewer) is =
    let h : r ∷ calls ≡ q ∷ (fewer ++ left node) = sym head ∙ (splits node ∙ ap (λ (x : List Logged). x ++ left node) is) in
    let first : r ≡ q = cc in
    let then : calls ≡ fewer ++ left node = cc in
    let sends : AllIn (packets_of node (q ∷ fewer)) many = subst (λ (x : List Logged). AllIn (packets_of node x) many) is (new node) in
    let now : AllIn (map (packet_from node) r.sent) many = subst (λ (x : Logged). AllIn (map (packet_from node) x.sent) many) (sym first) (first_in (map (packet_from node) q.sent) (packets_of node fewer) many sends) in
    goes_on (less extra node fewer)
    (less_splits rest left extra node calls fewer then splits)
    (both_in packets (map (packet_from node) r.sent) many old now)
    (less_new many extra node fewer (second_in (map (packet_from node) q.sent) (packets_of node fewer) many sends) new)

-- a finished order, walked inside a stuck one that did at least as much at each step
pub walked : (many : List Packet) (left : Node → List Logged) → Stuck many left → (packets : List Packet) (rest : Node → List Logged) (es : List Event) (sent : List Packet) (extra : Node → List Logged)
    → Leads packets rest es sent none_left → ((m : Node) → rest m ≡ extra m ++ left m) → AllIn packets many → ((m : Node) → AllIn (packets_of m (extra m)) many) → (m : Node) → left m ≡ []
walked many left stuck packets rest [] sent extra l splits old new m = nothing_behind (extra m) (left m) (l.1 m ∙ splits m)
walked many left stuck packets rest (e ∷ es) sent extra l splits old new m =
    walks many left stuck packets rest e extra l.0 l.1 l.2 m l.3 l.4 splits old new
    (λ fewer s o n. walked many left stuck (posted packets l.0 l.1.sent) (advanced rest l.0 l.2) es sent fewer l.5 s o n m)
    (extra l.0) refl

-- where some events make all calls, an order that is stuck has none left
pub finished : (rest : Node → List Logged) (es fs : List Event) (sent many : List Packet) (left : Node → List Logged) → Leads [] rest es sent none_left → Leads [] rest fs many left → Stuck many left
    → (m : Node) → left m ≡ []
finished rest es fs sent many left l g stuck m =
    let h = history [] rest fs many left g in
    walked many left stuck [] rest es sent h.made l h.splits (no_packets many) h.new m
