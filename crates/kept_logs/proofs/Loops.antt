-- Loops over records: what is done, and what is left.
use Rattle.std.proofs.Common.{◌≡◌, ◌≢◌, ℕ, ◌+◌, ◌-◌, ◌<◌, ◌≤◌, List, [], ◌∷◌, ◌++◌, length, Option, Some, None, option_map, Result, Ok, Err, IfErr, IsErrAnd, refl, ap, ◌∙◌, sym, arith, append_assoc, append-nil}
use Rattle.std.specs.List.{AllByRecursion}
use Rattle.claim_model.specs.Node.{Node}
use Rattle.kept_logs.specs.Stamps.{Stamped, KeptLog, stamped_text}
use Rattle.kept_logs.specs.declared.fault.LogFault.{LogFault}
use Rattle.kept_logs.specs.declared.fault.LogFault.TheVariants.{OutOfMemory}
use Rattle.kept_logs.specs.Fits.{FitsStamped}
use Rattle.kept_logs.specs.Digests.{version_of}
use Rattle.kept_logs.specs.Frames.{frame_text}
use Rattle.kept_logs.specs.Logs.{head_text, calls_text, kept_text, record_in, behind, calls_in}
use Rattle.codec.proofs.Loops.{one_less, none_left}

-- ---- records that are put

pub record PutsCalls (version : ℕ) (before now : List ℕ) (all : List Stamped) (number : ℕ) (left : List Stamped) : Type 0 where
  pub text : now ++ calls_text version number left ≡ before ++ calls_text version 1 all
  pub fits : AllByRecursion FitsStamped left → AllByRecursion FitsStamped all

pub calls_go_on : (version : ℕ) (before now longer : List ℕ) (all : List Stamped) (number : ℕ) (left : List Stamped) (one : Stamped) (rest : List Stamped) → left ≡ one ∷ rest → longer ≡ now ++ frame_text version number (stamped_text one) → FitsStamped one
    → PutsCalls version before now all number left → PutsCalls version before longer all (number + 1) rest
unfolding calls_text
calls_go_on version before now longer all number left one rest is put fits so_far = record {
  text = ap (λ t. t ++ calls_text version (number + 1) rest) put ∙ append_assoc now (frame_text version number (stamped_text one)) (calls_text version (number + 1) rest) ∙ ap (λ xs. now ++ calls_text version number xs) (sym is) ∙ so_far.text;
  fits = λ f. so_far.fits (rw is (fits, f));
}

pub calls_end : (version : ℕ) (before now : List ℕ) (all : List Stamped) (number : ℕ) (left : List Stamped) → left ≡ [] → PutsCalls version before now all number left → (now ≡ before ++ calls_text version 1 all) × AllByRecursion FitsStamped all
unfolding calls_text
calls_end version before now all number left none so_far = (sym (append-nil now) ∙ ap (λ xs. now ++ calls_text version number xs) (sym none) ∙ so_far.text, so_far.fits (rw none tt))

-- ---- records that are taken

pub behind_more : (done : List Stamped) (r : Stamped) (reading : Result (List Stamped × List ℕ) LogFault) → behind done (behind (r ∷ []) reading) ≡ behind (done ++ r ∷ []) reading
behind_more done r (Ok read) = ap (λ cs. Ok (cs, read.1)) (sym (append_assoc done (r ∷ []) read.0))
behind_more done r (Err why) = refl

behind_none : (reading : Result (List Stamped × List ℕ) LogFault) → reading ≡ behind [] reading
behind_none (Ok read) = refl
behind_none (Err why) = refl

pub calls_begin : (version total : ℕ) (bytes : List ℕ) (done : List Stamped) → done ≡ [] → calls_in version total 1 (length bytes) bytes ≡ behind done (calls_in version total 1 (length bytes - 0) bytes)
calls_begin version total bytes done none =
    let whole : length bytes ≡ length bytes - 0 = omega arith in
    let left : Result (List Stamped × List ℕ) LogFault = calls_in version total 1 (length bytes - 0) bytes in
    ap (λ most. calls_in version total 1 most bytes) whole ∙ behind_none left ∙ ap (λ (d : List Stamped). behind d left) (sym none)

pub calls_taken : (version total most i : ℕ) (done : List Stamped) (bytes : List ℕ) (r : Stamped) (rest : List ℕ) → i < most → record_in version (i + 1) (total - length bytes) bytes ≡ Ok (Some (r, rest))
    → behind done (calls_in version total (i + 1) (most - i) bytes) ≡ behind (done ++ r ∷ []) (calls_in version total (i + 1 + 1) (most - (i + 1)) rest)
unfolding calls_in
calls_taken version total most i done bytes r rest h e = rw (one_less most i h, e) (behind_more done r (calls_in version total (i + 1 + 1) (most - (i + 1)) rest))

pub calls_cut : (version total most i : ℕ) (done : List Stamped) (bytes : List ℕ) → i < most → record_in version (i + 1) (total - length bytes) bytes ≡ Ok None → behind done (calls_in version total (i + 1) (most - i) bytes) ≡ Ok (done, bytes)
unfolding calls_in
calls_cut version total most i done bytes h e = rw (one_less most i h, e) (ap (λ cs. Ok (cs, bytes)) (append-nil done))

pub calls_stop : (version total most i : ℕ) (done : List Stamped) (bytes : List ℕ) (why : LogFault) → i < most → record_in version (i + 1) (total - length bytes) bytes ≡ Err why → behind done (calls_in version total (i + 1) (most - i) bytes) ≡ Err why
unfolding calls_in
calls_stop version total most i done bytes why h e = rw (one_less most i h, e) refl

pub calls_all : (version total most i : ℕ) (done : List Stamped) (bytes : List ℕ) → most ≤ i → behind done (calls_in version total (i + 1) (most - i) bytes) ≡ Ok (done, bytes)
unfolding calls_in
calls_all version total most i done bytes h = rw (none_left most i h) (ap (λ cs. Ok (cs, bytes)) (append-nil done))

pub taken_none : {A B : Type 0} (f : A → B) (o : Option A) (p : Option B) → option_map f o ≡ p → o ≡ None → p ≡ None
taken_none f o p e n = sym e ∙ ap (option_map f) n

pub taken_some : {A B : Type 0} (f : A → B) (o : Option A) (p : Option B) (x : A) → option_map f o ≡ p → o ≡ Some x → p ≡ Some (f x)
taken_some f o p x e n = sym e ∙ ap (option_map f) n

-- the fault that comes back is the step's
pub passed_on : {A B : Type 0} (r : Result A LogFault) (fault : LogFault) (reading : Result B LogFault) → IsErrAnd r (λ e. e ≡ fault) → (fault ≢ OutOfMemory → reading ≡ Err fault) → IfErr r (λ e. e ≢ OutOfMemory → reading ≡ Err e)
passed_on (Ok x) fault reading is h = tt
passed_on (Err e) fault reading is h = rw is h

-- the text of a log, piece by piece
pub written : (version : ℕ) (digest : List ℕ) (node : Node) (log : KeptLog) (empty head text : List ℕ) (calls : List Stamped) → version ≡ version_of digest → empty ≡ [] → node ≡ log.node → calls ≡ log.calls
    → head ≡ empty ++ head_text digest node → text ≡ head ++ calls_text version 1 calls → text ≡ kept_text digest log
unfolding kept_text
written version digest node log empty head text calls own none same these begun ended =
    let head_is : head ≡ head_text digest log.node = begun ∙ ap (λ e. e ++ head_text digest node) none ∙ ap (head_text digest) same in
    ended ∙ ap (λ v. head ++ calls_text v 1 calls) own ∙ ap (λ h. h ++ calls_text (version_of digest) 1 calls) head_is ∙ ap (λ cs. head_text digest log.node ++ calls_text (version_of digest) 1 cs) these

-- the step of a record, where its place is known
pub stepped : {A : Type 0} (version : ℕ) (f : A → Stamped × List ℕ) (number start place : ℕ) (bytes : List ℕ) (o p : Option A) → start ≡ place → record_in version number start bytes ≡ Ok (option_map f o) → o ≡ p
    → record_in version number place bytes ≡ Ok (option_map f p)
stepped version f number start place bytes o p s e n = ap (λ at. record_in version number at bytes) (sym s) ∙ e ∙ ap (λ x. Ok (option_map f x)) n
