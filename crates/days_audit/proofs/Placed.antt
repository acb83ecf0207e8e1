-- Lines, and one call more, in what a search for an order keeps.
use Rattle.std.proofs.Common.{◌≡◌, ℕ, zero, suc, ◌+◌, ◌<◌, ◌==◌, Bool, true, ◌&&◌, List, [], ◌∷◌, map, length, drop, get_or, slice_get, slice_set, refl, sym, ap, ◌∙◌, subst, inl, inr, arith}
use Rattle.std.specs.List.{list_all}
use Rattle.std.proofs.lemmas.Bool.{cases_eq}
use Rattle.claim_model.specs.Context.{Context}
use Rattle.claim_model.specs.Logs.{Logged, NodeLog}
use Rattle.claim_model.specs.Node.{Node}
use Rattle.claim_model.proofs.Options.{same_some}
use Rattle.world_setup.specs.Seen.{node_seen}
use Rattle.run_merge.proofs.Places.{found_at, get_below}
use Rattle.vouched_runs.specs.Parties.{Parties, world_of}
use Rattle.days_audit.specs.Calls.{Does, DoesNot, NextIsVouched}
use Rattle.days_audit.specs.Orders.{OrderParts, line_seen, GoesAt, AllWait, IsPlaced, IsBroken}
use Rattle.days_audit.specs.declared.line.Line.{Line}

abbrev pub parts : List Line → Parties → ℕ → Bool → OrderParts
parts lines live placed broken = record { lines = map line_seen lines; live = live; placed = placed; broken = broken }

lines_set : (lines : List Line) (k : ℕ) (x : Line) → map line_seen (slice_set lines k x) ≡ slice_set (map line_seen lines) k (line_seen x)
lines_set [] k x = refl
lines_set (l ∷ lines) zero x = refl
lines_set (l ∷ lines) (suc k) x = ap (λ (xs : List NodeLog). line_seen l ∷ xs) (lines_set lines k x)

first_is : (calls more : List Logged) (one first : Logged) → calls ≡ first ∷ more → one ≡ get_or calls 0 one → one ≡ first
first_is calls more one first h e = e ∙ ap (λ (x : List Logged). get_or x 0 one) h

pub below : (ctx : Context) (lines : List Line) (place : ℕ) (live : Parties) (n : ℕ) (broken : Bool) → GoesAt ctx (parts lines live n broken) place → place < length lines
below ctx lines place live n broken g = get_below line_seen lines place g.log g.at

pub some_left : (ctx : Context) (lines : List Line) (place : ℕ) (line : Line) (live : Parties) (n : ℕ) (broken : Bool) → place < length lines → line ≡ get_or lines place line → GoesAt ctx (parts lines live n broken) place → 0 < length line.left.now
some_left ctx lines place line live n broken lt is g =
    let log_is : line_seen line ≡ g.log = same_some (line_seen line) g.log (sym (found_at line_seen lines place line lt is) ∙ g.at) in
    let left_is : line.left.now ≡ g.goes.first ∷ g.goes.calls = ap (λ (x : NodeLog). x.calls) log_is ∙ g.goes.is in
    let long : length line.left.now ≡ length (g.goes.first ∷ g.goes.calls) = ap length left_is in
    omega arith

pub placed_one : (ctx : Context) (lines : List Line) (place : ℕ) (line after : Line) (one : Logged) (live next : Parties) (n m : ℕ) (broken : Bool) → place < length lines → line ≡ get_or lines place line → GoesAt ctx (parts lines live n broken) place
    → one ≡ get_or line.left.now 0 one → Does ctx live (node_seen line.node) one next → m ≡ n + 1 → line_seen after ≡ record { node = node_seen line.node; calls = drop 1 line.left.now }
    → IsPlaced ctx (parts lines live n broken) (parts (slice_set lines place after) next m broken)
placed_one ctx lines place line after one live next n m broken lt is g one_is does count after_is =
    let log_is : line_seen line ≡ g.log = same_some (line_seen line) g.log (sym (found_at line_seen lines place line lt is) ∙ g.at) in
    let node_is : node_seen line.node ≡ g.log.node = ap (λ (x : NodeLog). x.node) log_is in
    let left_is : line.left.now ≡ g.goes.first ∷ g.goes.calls = ap (λ (x : NodeLog). x.calls) log_is ∙ g.goes.is in
    let first : one ≡ g.goes.first = first_is line.left.now g.goes.calls one g.goes.first left_is one_is in
    let rest : drop 1 line.left.now ≡ g.goes.calls = ap (drop 1) left_is in
    let after_log : line_seen after ≡ record { node = g.log.node; calls = g.goes.calls } = after_is ∙ (λ i. record { node = node_is i; calls = rest i }) in
    record {
      place = place;
      log = g.log;
      first = g.goes.first;
      calls = g.goes.calls;
      at = g.at;
      is = g.goes.is;
      vouched = g.goes.vouched;
      does = subst (λ (x : Logged). Does ctx live g.log.node x next) first (subst (λ (x : Node). Does ctx live x one next) node_is does);
      lines = lines_set lines place after ∙ ap (λ (x : NodeLog). slice_set (map line_seen lines) place x) after_log;
      placed = count;
      broken = refl;
    }

pub broken_one : (ctx : Context) (lines : List Line) (place : ℕ) (line : Line) (one : Logged) (live next : Parties) (n : ℕ) (broken : Bool) → place < length lines → line ≡ get_or lines place line → GoesAt ctx (parts lines live n broken) place
    → one ≡ get_or line.left.now 0 one → DoesNot ctx live (node_seen line.node) one → IsBroken ctx (parts lines live n broken) (parts lines next n true)
broken_one ctx lines place line one live next n broken lt is g one_is not =
    let log_is : line_seen line ≡ g.log = same_some (line_seen line) g.log (sym (found_at line_seen lines place line lt is) ∙ g.at) in
    let node_is : node_seen line.node ≡ g.log.node = ap (λ (x : NodeLog). x.node) log_is in
    let left_is : line.left.now ≡ g.goes.first ∷ g.goes.calls = ap (λ (x : NodeLog). x.calls) log_is ∙ g.goes.is in
    let first : one ≡ g.goes.first = first_is line.left.now g.goes.calls one g.goes.first left_is one_is in
    record {
      place = place;
      log = g.log;
      first = g.goes.first;
      calls = g.goes.calls;
      at = g.at;
      is = g.goes.is;
      vouched = g.goes.vouched;
      not = subst (λ (x : Logged). DoesNot ctx live g.log.node x) first (subst (λ (x : Node). DoesNot ctx live x one) node_is not);
      broken = refl;
    }

-- the log at a place goes on
pub goes_at : (ctx : Context) (lines : List Line) (place : ℕ) (line : Line) (live : Parties) (n : ℕ) (broken : Bool) → place < length lines → line ≡ get_or lines place line → NextIsVouched ctx (world_of live) (line_seen line) → GoesAt ctx (parts lines live n broken) place
goes_at ctx lines place line live n broken lt is g = record { log = line_seen line; at = found_at line_seen lines place line lt is; goes = g }

-- the logs before a place wait
pub record WaitBefore (place : ℕ) (ctx : Context) (o : OrderParts) : Type 0 where
  pub wait : (k : ℕ) → k < place → GoesAt ctx o k → ⊥

pub wait_next : (ctx : Context) (lines : List Line) (place : ℕ) (line : Line) (live : Parties) (n : ℕ) (broken : Bool) → place < length lines → line ≡ get_or lines place line → (NextIsVouched ctx (world_of live) (line_seen line) → ⊥)
    → WaitBefore place ctx (parts lines live n broken) → WaitBefore (place + 1) ctx (parts lines live n broken)
wait_next ctx lines place line live n broken lt is w b =
    record {
      wait = λ k l g. elim (cases_eq k place) [
        | inl s ↦
            let f : g.log ≡ line_seen line = same_some g.log (line_seen line) (sym g.at ∙ (ap (slice_get (map line_seen lines)) s ∙ found_at line_seen lines place line lt is)) in
            w (subst (NextIsVouched ctx (world_of live)) f g.goes)
        | inr d ↦ b.wait k (omega arith) g
      ];
    }

pub all_wait : (ctx : Context) (lines : List Line) (place : ℕ) (live : Parties) (n : ℕ) (broken : Bool) → length lines ≡ place → WaitBefore place ctx (parts lines live n broken) → AllWait ctx (parts lines live n broken)
all_wait ctx lines place live n broken h b k g = let l = get_below line_seen lines k g.log g.at in b.wait k (omega arith) g

pub done_lines : (lines : List Line) → list_all (λ (line : Line). length line.left.now == 0) lines ≡ list_all (λ (line : NodeLog). length line.calls == 0) (map line_seen lines)
done_lines [] = refl
done_lines (line ∷ lines) = ap (λ (b : Bool). (length line.left.now == 0) && b) (done_lines lines)
