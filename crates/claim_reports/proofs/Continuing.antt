-- A reader of CSV between two records.
use Rattle.std.proofs.Common.{◌≡◌, ◌++◌, ◌∷◌, ◌<◌, ◌≢◌, [], ℕ, List, Some, Bor, true, false, refl, sym, ap, ◌∙◌, length}
use Rattle.std.specs.Prelude.{Option, None}
use Rattle.csv.specs.Machine.{Read, next_record}
use Rattle.csv.specs.Reading.{ExplainsRead, NextIs, Reached, ReadsNext, Ready, TookRecord, default_config, pending_of, records, source_of, strip_bom}
use Rattle.csv.specs.declared.parser.Config.{Config}
use Rattle.csv.specs.declared.parser.State.{State}
use Rattle.csv.specs.declared.parser.State.TheVariants as state
use Rattle.csv.specs.declared.reader.Reader.{Reader}
use Rattle.csv.specs.declared.reader.Trim.TheVariants as trim
use Rattle.csv.specs.declared.iter.ByteRecordsIntoIter.{ByteRecordsIntoIter}
use Rattle.csv.specs.declared.error.ErrorKind.{ErrorKind}
use Rattle.csv.specs.declared.error.ErrorKind.TheVariants as kind
use Rattle.claim_reports.specs.declared.fault.ReportFault.{ReportFault}
use Rattle.claim_reports.specs.Causes.{NotCsv, Tells, cause_of, records_of, unequal, uneven}
use Rattle.claim_reports.proofs.Readings.{Expects, all_of, even_is, first_of, uneven_is}

-- the bytes of a slice are known
abbrev pub known : Bor (List ℕ) → Option (List ℕ)
known bytes = Some bytes.now

-- it has given these records of a text, and has the others left
pub record IsReading (text : List ℕ) (records : List (List (List ℕ))) (it : ByteRecordsIntoIter (Bor (List ℕ))) : Type 0 where
  pub plain : it.rdr.trim ≡ trim.None
  pub ready : Ready it.rdr
  pub goes_on : 0 < it.left
  pub config : it.rdr.config ≡ default_config
  pub unread : List ℕ
  pub source : source_of (λ (s : Bor (List ℕ)). Some s.now) it.rdr ≡ Some unread
  pub reached : Reached default_config state.StartRecord (strip_bom text) records it.rdr.state unread
  pub flexible : it.rdr.flexible ≡ false
  pub lengths : Expects it.rdr.expected records

-- a record that was taken is the next one
next_some : (o : Option Read) (f : List (List ℕ)) (s : State) (z : List ℕ) → NextIs o true f s z → o ≡ Some (f, s, z)
next_some None f s z n = absurd (cc n)
next_some (Some p) f s z n = λ i. let o : Option Read = Some (sym n.1 i, sym n.2 i, sym n.3 i) in o

took : (cfg : Config) (a b : State) (y : List ℕ) (f : List (List ℕ)) (k : Option (List ℕ)) → ReadsNext cfg a (Some y) k true f b
    → (s : State) × (z : List ℕ) × (next_record cfg a [] [] y ≡ Some (f, s, z))
took cfg a b y f None r = absurd r
took cfg a b y f (Some z) r = (b, z, next_some (next_record cfg a [] [] y) f b z r)

uneven_more : (table expected : ℕ) (old : Option ℕ) (all rows : List (List (List ℕ))) (fields : List (List ℕ)) → ((more : List (List (List ℕ))) × (all ≡ rows ++ fields ∷ more)) → Expects old rows → old ≡ Some expected
    → expected ≢ length fields → uneven table all ≡ Some (NotCsv table)
uneven_more table expected old all rows fields begins so_far is apart = ap (uneven table) begins.1 ∙ uneven_is table expected old rows fields begins.0 so_far is apart

uneven_text : (table expected : ℕ) (text : List ℕ) (rows : List (List (List ℕ))) (it : ByteRecordsIntoIter (Bor (List ℕ))) (b : Reader (Bor (List ℕ))) (fields : List (List ℕ)) → IsReading text rows it
    → it.rdr.expected ≡ Some expected → expected ≢ length fields → TookRecord known it.rdr b fields → uneven table (records_of text) ≡ Some (NotCsv table)
unfolding records_of
uneven_text table expected text rows it b fields is expects apart takes =
    let next = took default_config it.rdr.state b.state is.unread fields (pending_of (known b.rdr) b) (rw (is.config, is.source) at takes) in
    uneven_more table expected it.rdr.expected (records default_config (strip_bom text)) rows fields
    (first_of default_config (strip_bom text) rows it.rdr.state is.unread (fields, next.0, next.1) is.reached next.2) is.lengths expects apart

-- a read fails for memory, or for a record of another length
pub refused : (table : ℕ) (text : List ℕ) (rows : List (List (List ℕ))) (it : ByteRecordsIntoIter (Bor (List ℕ))) (b : Reader (Bor (List ℕ))) (e : ReportFault) (k : ErrorKind) → IsReading text rows it
    → ExplainsRead known it.rdr b false k → cause_of e ≡ unequal table k → Tells e (uneven table (records_of text))
refused table text rows it b e (kind.UnequalLengths pos expected len) is why tells =
    let wrong = uneven_text table expected text rows it b why.3 is why.1 (λ same. why.2 (same ∙ why.5)) why.4 in
    record { why = rw (tells, wrong) refl }
refused table text rows it b e (kind.Io f) is why tells = record { why = rw tells refl }
refused table text rows it b e (kind.Utf8 pos f) is why tells = absurd (cc (why.0))
refused table text rows it b e (kind.Serialize f) is why tells = absurd why
refused table text rows it b e (kind.Deserialize pos f) is why tells = absurd why
refused table text rows it b e kind.OutOfMemory is why tells = record { why = rw tells refl }

-- at the end all records are there, of one length
pub all_read : (text : List ℕ) (rows : List (List (List ℕ))) (it : ByteRecordsIntoIter (Bor (List ℕ))) (is : IsReading text rows it) → next_record default_config it.rdr.state [] [] is.unread ≡ None
    → records_of text ≡ rows
unfolding records_of
all_read text rows it is none = all_of default_config (strip_bom text) rows it.rdr.state is.unread is.reached none

pub even_read : (table : ℕ) (text : List ℕ) (rows : List (List (List ℕ))) (it : ByteRecordsIntoIter (Bor (List ℕ))) → IsReading text rows it → records_of text ≡ rows → uneven table (records_of text) ≡ None
even_read table text rows it is all = ap (uneven table) all ∙ even_is table it.rdr.expected rows is.lengths
