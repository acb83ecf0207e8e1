-- What is printed of the book's own answer is what is printed of the model's, and lines follow one another.
use Rattle.std.proofs.Common.{◌≡◌, ℕ, List, [], ◌∷◌, ◌++◌, Option, Result, Ok, Err, OnErr, refl, sym, ap, ◌∙◌, append_assoc, append-nil}
use Rattle.std.specs.Prelude.{codes, decimal}
use Rattle.bin_routes.specs.Table.{RouteMaps}
use Rattle.envelope.specs.Txn.{Txn}
use Rattle.input_text.specs.Printing.{printed}
use Rattle.schedule.proofs.EventLists.{joined}
use Rattle.claim_model.specs.declared.refusal.Refusal.{Refusal}
use Rattle.claim_model.specs.declared.refusal.Fault.{Fault}
use Rattle.claim_model.specs.declared.refusal.Fault.TheVariants.{OutOfMemory, Refused}
use Rattle.claim_model.specs.Rows.{Row, Book}
use Rattle.claim_model.specs.Bytes.{bytes_with}
use Rattle.claim_model.specs.Book.{Answered, answered, unadvised}
use Rattle.claim_model.proofs.Lists.{get_exists}
use Rattle.payer_book.specs.Answers.{Refuses}
use Rattle.payer_book.specs.Placing.{AnswersAt}
use Rattle.payer_book.specs.declared.book.placing.Placed.{Placed}
use Rattle.program_io.specs.declared.fault.CheckFault.{CheckFault}
use Rattle.program_io.specs.declared.fault.CheckFault.TheVariants as check
use Rattle.program_io.specs.declared.fault.InputFault.TheVariants.{Line}
use Rattle.read_and_replay.specs.Entries.{Entry, by_line, entries_in, entries_of}
use Rattle.read_and_replay.specs.Sample.{sample_routes, opening_book}
use Rattle.program_io.specs.Stops.{RefusedFor as InputRefusedFor}
use Rattle.read_and_replay.specs.Lines.{told, line_of, book_after, said_to, answer_lines, lines_behind, lines_for, output_of}
use Rattle.read_and_replay.specs.Said.{answer_of, said_text}

-- the same text, unless memory ran out
pub said_is_told : (maps : RouteMaps) (before : Book) (id : Txn) (request : List ℕ) (said : Result Placed Fault) (after : Book)
    → AnswersAt maps before id request after said → Refuses maps before unadvised id request said → (said ≡ Err OutOfMemory → ⊥) → said_text after.rows said ≡ told (answered (bytes_with maps) before unadvised id request)
said_is_told maps before id request (Ok placed) after is why known =
    let row = get_exists after.rows placed.place is.within in ap (λ (o : Option Row). codes " " ++ printed (answer_of o)) row.1 ∙ sym (ap told (is.ruled row.0 row.1))
said_is_told maps before id request (Err OutOfMemory) after is why known = absurd (known refl)
said_is_told maps before id request (Err (Refused refusal)) after is why known = sym (ap told why)

-- the book that is left, unless memory ran out
pub book_is_left : (maps : RouteMaps) (before : Book) (id : Txn) (request : List ℕ) (said : Result Placed Fault) (after : Book)
    → AnswersAt maps before id request after said → Refuses maps before unadvised id request said → OnErr said (after ≡ before) → (said ≡ Err OutOfMemory → ⊥)
    → after ≡ book_after before (answered (bytes_with maps) before unadvised id request)
book_is_left maps before id request (Ok placed) after is why same known = let row = get_exists after.rows placed.place is.within in sym (ap (book_after before) (is.ruled row.0 row.1))
book_is_left maps before id request (Err OutOfMemory) after is why same known = absurd (known refl)
book_is_left maps before id request (Err (Refused refusal)) after is why same known = same ∙ sym (ap (book_after before) why)

-- number, text and newline after what was there
pub line_joined : (front first second third said : List ℕ) (number : ℕ) (answer : Result Answered Refusal)
    → first ≡ front ++ decimal number → second ≡ first ++ said → third ≡ second ++ codes "\n" → said ≡ told answer → third ≡ front ++ line_of number answer
unfolding line_of
line_joined front first second third said number answer one two three is =
    three
    ∙ (ap (λ (xs : List ℕ). xs ++ codes "\n") (two ∙ (ap (λ (xs : List ℕ). xs ++ said) one ∙ append_assoc front (decimal number) said))
    ∙ (append_assoc front (decimal number ++ said) (codes "\n")
    ∙ ap (λ (xs : List ℕ). front ++ xs) (append_assoc (decimal number) said (codes "\n") ∙ ap (λ (xs : List ℕ). decimal number ++ (xs ++ codes "\n")) is)))

-- one line more
pub lines_go_on : (maps : RouteMaps) (book next : Book) (entry : Entry) (front more : List ℕ) (left : Result (List Entry) ℕ)
    → more ≡ front ++ line_of entry.id.number (said_to maps book entry) → next ≡ book_after book (said_to maps book entry)
    → lines_behind maps next more left ≡ lines_behind maps book front (joined (entry ∷ []) left)
lines_go_on maps book next entry front more (Err number) line after = refl
lines_go_on maps book next entry front more (Ok entries) line after =
    let one = line_of entry.id.number (said_to maps book entry) in
    ap (λ (xs : List ℕ). Ok (xs ++ answer_lines maps next entries)) line
    ∙ (ap (λ (xs : List ℕ). Ok xs) (append_assoc front one (answer_lines maps next entries))
    ∙ ap (λ (b : Book). Ok (front ++ (one ++ answer_lines maps b entries))) after)

-- a line that spells none
pub lines_stop : (maps : RouteMaps) (book : Book) (front : List ℕ) (number : ℕ) (read : Result (List Entry) ℕ) → Err number ≡ lines_behind maps book front read → by_line read ≡ Err (Line number)
lines_stop maps book front number (Ok entries) e = absurd cc
lines_stop maps book front number (Err other) e = let same : number ≡ other = cc in ap (λ n. Err (Line n)) (sym same)

-- no line is left
pub lines_are_done : (maps : RouteMaps) (book : Book) (front : List ℕ) → lines_behind maps book front (Ok []) ≡ Ok front
lines_are_done maps book front = ap (λ (xs : List ℕ). Ok xs) (append-nil front)

-- an input whose entries are refused has no output
pub output_refused : (fault : CheckFault) (input : List ℕ) → InputRefusedFor fault (entries_of input) → InputRefusedFor fault (output_of input)
unfolding output_of
output_refused check.OutOfMemory input h = tt
output_refused (check.Input why) input h = ap lines_for h

pub output_is : (input output : List ℕ) → lines_behind sample_routes opening_book [] (entries_in input) ≡ Ok output → output_of input ≡ Ok output
unfolding output_of
output_is input output told = by_entries (entries_in input) told
  where
    by_entries : (read : Result (List Entry) ℕ) → lines_behind sample_routes opening_book [] read ≡ Ok output → lines_for (by_line read) ≡ Ok output
    by_entries (Err number) e = absurd cc
    by_entries (Ok entries) e = cc
