use Rattle.sheet_text.proofs.Entries.{no_entry}
use Rattle.sheet_text.proofs.reading.entered.Goals as goal

pub returns-in_err-entry : goal.returns-in_err-entry
returns-in_err-entry c = rw c.from_residual-in_err-entry.ensures (no_entry c.in_ok-word.ensures.words c.in_err-entry.ensures)
