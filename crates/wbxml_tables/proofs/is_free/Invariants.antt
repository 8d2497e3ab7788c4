use Rattle.std.proofs.Common.{◌≡◌, drop}
use Rattle.wbxml_tables.specs.Tables.{is_absent}
use Rattle.wbxml_tables.proofs.is_free.Given as goal

abbrev pub invariant-loop-row : goal.invariant-loop-row
invariant-loop-row l = is_absent l.page l.code l.rows ≡ is_absent l.page l.code (drop l.row-index l.rows)
