-- The names in each row are those of its table.
use Rattle.std.proofs.Common.{◌≡◌, ℕ, Bool, List, refl}
use Rattle.claim_model.specs.Context.{Context}
use Rattle.claim_model.specs.Counted.{Counted}
use Rattle.claim_model.specs.Words.{Ruling, Paid, Duplicate, Reversed, Rejected}
use Rattle.claim_model.specs.World.{Packet}
use Rattle.pharmacy_journal.specs.Listing.{Listed}
use Rattle.payer_book.specs.declared.book.PaymentView.{PaymentView}
use Rattle.log_audit.specs.Payments.{payment_row, shown_row}
use Rattle.log_audit.specs.Entries.{entry_row}
use Rattle.log_audit.specs.CountedRows.{counted_row}
use Rattle.log_audit.specs.Rulings.{At, answered_row, ruling_row}
use Rattle.log_audit.specs.Packets.{loaded_row, packet_row}
use Rattle.log_audit.specs.Tables.{names_in, table_names}
use Rattle.log_audit.specs.declared.tables.payments.PaidAt.{PaidAt}
use Rattle.log_audit.specs.declared.tables.table.Table.TheVariants.{Payments, Entries, Rows, Packets, Counted as CountedTable}

pub payments_named : (at : PaidAt) (counted : Bool) (p : PaymentView) → names_in (payment_row at counted p) ≡ table_names Payments
unfolding shown_row
payments_named at counted p = refl

pub entries_named : (pharmacy : ℕ) (e : Listed) (own : List Counted) → names_in (entry_row pharmacy e own) ≡ table_names Entries
unfolding entry_row
entries_named pharmacy e own = refl

pub rulings_named : (at : At) (ruling : Ruling) → names_in (ruling_row at ruling) ≡ table_names Rows
unfolding answered_row
rulings_named at (Paid auth prescription amounts) = refl
rulings_named at (Duplicate auth prescription amounts) = refl
rulings_named at (Reversed auth prescription) = refl
rulings_named at (Rejected rejects) = refl

pub packets_named : (ctx : Context) (number event : ℕ) (p : Packet) → names_in (packet_row ctx number event p) ≡ table_names Packets
unfolding loaded_row
packets_named ctx number event p = refl

pub counted_named : (pharmacy : ℕ) (c : Counted) → names_in (counted_row pharmacy c) ≡ table_names CountedTable
unfolding counted_row
counted_named pharmacy c = refl
