-- What logs come to one by one, as texts and rows: each with nothing judged of other nodes.
use Rattle.std.specs.Prelude.{ℕ, ◌+◌, ◌==◌, Bool, not, cond, List, [], ◌∷◌, ◌++◌, length, slice_get, slice_index, codes, Option, Some, None, option_map, Result, Ok, Err}
use Rattle.std.specs.Global.{Vec}
use Rattle.std.specs.List.{flat_map}
use Rattle.claim_model.specs.Context.{Context}
use Rattle.claim_model.specs.Counted.{Counted, counted}
use Rattle.claim_model.specs.Journal.{JournalAtRest}
use Rattle.claim_model.specs.Logs.{Logged, NodeLog}
use Rattle.claim_model.specs.Node.{Node}
use Rattle.claim_model.specs.Nodes.{AnyNode}
use Rattle.claim_model.specs.Words.{Auth}
use Rattle.node_state.specs.Nodes.{book_of, journal_of}
use Rattle.pharmacy_journal.specs.Listing.{Listed, listed}
use Rattle.table_text.specs.Members.{Row}
use Rattle.kept_logs.specs.Rests.{calls_before}
use Rattle.world_setup.specs.declared.settings.WorldSettings.{WorldSettings}
use Rattle.log_audit.specs.Alone.{age, is_made, lone_node}
use Rattle.log_audit.specs.Kinds.{kind_word, node_member, number_of, number_member, text_member}
use Rattle.log_audit.specs.Ledger.{is_open, requests_pieces, book_text}
use Rattle.log_audit.specs.Payments.{book_payments}
use Rattle.log_audit.specs.Rulings.{book_rulings}
use Rattle.log_audit.specs.Sentences.{Piece, Words, Number, Named, sentence, told_line}
use Rattle.log_audit.specs.Tables.{journal_counted, journal_rows, names_auth}
use Rattle.log_audit.specs.declared.sentences.Manner.TheVariants.{Line}
use Rattle.log_audit.specs.declared.tables.table.Table.{Table}
use Rattle.log_audit.specs.declared.tables.table.Table.TheVariants.{Payments, Entries, Rows, Packets, Counted as CountedTable, Open}

-- a log, how many calls were made before it, how many bytes its torn end has, and what it comes to by itself: its node after it, or the line that says why
-- the node does not make it
pub record Lone : Type 0 where
  pub log : NodeLog
  pub before : ℕ
  pub torn : ℕ
  pub came : Result AnyNode (List ℕ)

-- what the log at a place begins with
abbrev pub rest_or_none : Option (Option (Vec ℕ)) → Option (List ℕ)
rest_or_none None = None
rest_or_none (Some rest) = option_map (λ (bytes : Vec ℕ). bytes.items) rest

abbrev pub rest_at : List (Option (Vec ℕ)) → ℕ → Option (List ℕ)
rest_at rests place = rest_or_none (slice_get rests place)

abbrev pub lone_of : Context → WorldSettings → Option (List ℕ) → ℕ → NodeLog → Lone
lone_of ctx s rest torn log = record { log = log; before = calls_before rest; torn = torn; came = lone_node ctx s rest log }

-- each log, from this place on
abbrev pub lones_from : Context → WorldSettings → List (Option (Vec ℕ)) → List ℕ → ℕ → List NodeLog → List Lone
lones_from ctx s rests torn place [] = []
lones_from ctx s rests torn place (log ∷ more) = lone_of ctx s (rest_at rests place) (slice_index torn place) log ∷ lones_from ctx s rests torn (place + 1) more

abbrev pub makes : Lone → Bool
makes lone = is_made lone.came

-- calls were made before the log
abbrev pub is_behind : Lone → Bool
is_behind lone = not (lone.before == 0)

-- what is told of something, where it is there
abbrev pub told_of : {A B : Type 0} → (A → List B) → Option A → List B
told_of told None = []
told_of told (Some a) = told a

-- ---- lines

abbrev pub open_pieces : ℕ → Listed → ℕ → List Piece
open_pieces number e ticks =
    Words (codes "pharmacy ") ∷ Number number ∷ Words (codes " open ") ∷ Number e.number ∷ Words (codes " ") ∷ Words (kind_word e.code) ∷
    Words (codes " ticks ") ∷ Number ticks ∷ Words (codes "\n") ∷ []

-- the line of an entry without an answer
unfoldable pub open_line : ℕ → Listed → ℕ → List ℕ
open_line number e ticks = sentence (open_pieces number e ticks)

-- of a journal of this many entries
abbrev pub open_text : ℕ → ℕ → List Logged → Listed → List ℕ
open_text entries number calls e = cond (is_open e) (open_line number e (age entries calls e.number)) []

-- what a pharmacy of this number has after these calls: its counts, and a line for each entry without an answer
unfoldable pub journal_lines : Context → ℕ → List Logged → JournalAtRest → List ℕ
journal_lines ctx number calls j =
    sentence (requests_pieces number (listed j) (counted ctx j)) ++ (codes "\n" ++ flat_map (open_text (length (listed j)) number calls) (listed j))

abbrev pub makes_line : Node → List ℕ
makes_line node = sentence (Named node ∷ Words (codes " makes these calls\n") ∷ [])

-- what the node of a log has after it: a pharmacy its journal, a payer its book
abbrev pub has_text : Context → ℕ → NodeLog → AnyNode → List ℕ
has_text ctx pharmacies log node =
    told_of (journal_lines ctx (number_of log.node) log.calls) (journal_of node) ++ told_of (book_text ctx pharmacies (number_of log.node)) (book_of node)

-- how many calls were made before the log of a node, where there are any
abbrev pub before_line : Node → ℕ → List ℕ
before_line node before = sentence (Named node ∷ Words (codes " begins behind ") ∷ Number before ∷ Words (codes " calls, as its rest says\n") ∷ [])

abbrev pub before_text : Lone → List ℕ
before_text lone = cond (is_behind lone) (before_line lone.log.node lone.before) []

-- that a node makes its log, and what it has then; or why it does not
abbrev pub came_text : Context → ℕ → NodeLog → Result AnyNode (List ℕ) → List ℕ
came_text ctx pharmacies log (Ok node) = makes_line log.node ++ has_text ctx pharmacies log node
came_text ctx pharmacies log (Err line) = told_line Line line

-- ---- rows

-- the row of an entry without an answer
unfoldable pub open_row : ℕ → Listed → ℕ → Row
open_row number e ticks =
    number_member (codes "pharmacy") number ∷
    number_member (codes "number") e.number ∷
    text_member (codes "kind") (kind_word e.code) ∷
    number_member (codes "ticks") ticks ∷ []

abbrev pub open_rows : ℕ → ℕ → List Logged → Listed → List Row
open_rows entries number calls e = cond (is_open e) (open_row number e (age entries calls e.number) ∷ []) []

abbrev pub journal_open : ℕ → List Logged → JournalAtRest → List Row
journal_open number calls j = flat_map (open_rows (length (listed j)) number calls) (listed j)

-- how many calls were made before a log, as an object of JSON, where there are any
unfoldable pub before_row : Node → ℕ → Row
before_row node before = node_member (codes "node") node ∷ number_member (codes "calls") before ∷ []

abbrev pub before_rows : Lone → List Row
before_rows lone = cond (is_behind lone) (before_row lone.log.node lone.before ∷ []) []

-- the rows of a table that a node has after its log; `counted` says which authorizations are counted. Packets are those of a run
abbrev pub node_rows : Context → (Auth → Bool) → Table → NodeLog → AnyNode → List Row
node_rows ctx counted Payments log node = told_of (book_payments ctx counted) (book_of node)
node_rows ctx counted Entries log node = told_of (journal_rows ctx) (journal_of node)
node_rows ctx counted Rows log node = told_of book_rulings (book_of node)
node_rows ctx counted Packets log node = []
node_rows ctx counted Open log node = told_of (journal_open (number_of log.node) log.calls) (journal_of node)
node_rows ctx counted CountedTable log node = told_of (journal_counted ctx) (journal_of node)

abbrev pub came_rows : Context → (Auth → Bool) → Table → NodeLog → Result AnyNode (List ℕ) → List Row
came_rows ctx counted table log (Ok node) = node_rows ctx counted table log node
came_rows ctx counted table log (Err line) = []

abbrev pub rows_of : Context → (Auth → Bool) → Table → Lone → List Row
rows_of ctx counted table lone = came_rows ctx counted table lone.log lone.came

-- the payments that the node of a log counts, if it is a pharmacy
abbrev pub came_counted : Context → Result AnyNode (List ℕ) → List Counted
came_counted ctx (Ok node) = told_of (counted ctx) (journal_of node)
came_counted ctx (Err line) = []

abbrev pub counted_in : Context → Lone → List Counted
counted_in ctx lone = came_counted ctx lone.came

-- a pharmacy of these logs counts the payment of this authorization
abbrev pub is_counted : Context → List Lone → Auth → Bool
is_counted ctx lones auth = names_auth (flat_map (counted_in ctx) lones) auth

-- the rows of a table that the nodes of these logs have
abbrev pub lone_rows : Context → List Lone → Table → List Row
lone_rows ctx lones table = flat_map (rows_of ctx (is_counted ctx lones) table) lones
