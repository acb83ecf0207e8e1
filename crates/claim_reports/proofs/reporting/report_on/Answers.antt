use Rattle.claim_reports.proofs.Telling.{passed}
use Rattle.claim_reports.proofs.reporting.report_on.Goals as goal

pub returns-in_err-remittance_sums-in-Sums-clause-refuses : goal.returns-in_err-remittance_sums-in-Sums-clause-refuses
returns-in_err-remittance_sums-in-Sums-clause-refuses c =
    passed c.from_residual-in_err-remittance_sums-in-Sums.result _ _ c.from_residual-in_err-remittance_sums-in-Sums.ensures.1
    (rw (c.in-Sums.is, ← c.table_at-first.ensures) c.in_err-remittance_sums-in-Sums.ensures.refuses)

pub returns-in_ok-remittance_sums-in-Sums-clause-refuses : goal.returns-in_ok-remittance_sums-in-Sums-clause-refuses
returns-in_ok-remittance_sums-in-Sums-clause-refuses c = rw (c.in-Sums.is, ← c.table_at-first.ensures) c.in_ok-remittance_sums-in-Sums.ensures.refuses

pub returns-in_err-daily_sums-in-DailySums-clause-refuses : goal.returns-in_err-daily_sums-in-DailySums-clause-refuses
returns-in_err-daily_sums-in-DailySums-clause-refuses c =
    passed c.from_residual-in_err-daily_sums-in-DailySums.result _ _ c.from_residual-in_err-daily_sums-in-DailySums.ensures.1
    (rw (c.in-DailySums.is, ← c.table_at-first.ensures) c.in_err-daily_sums-in-DailySums.ensures.refuses)

pub returns-in_ok-daily_sums-in-DailySums-clause-refuses : goal.returns-in_ok-daily_sums-in-DailySums-clause-refuses
returns-in_ok-daily_sums-in-DailySums-clause-refuses c = rw (c.in-DailySums.is, ← c.table_at-first.ensures) c.in_ok-daily_sums-in-DailySums.ensures.refuses
