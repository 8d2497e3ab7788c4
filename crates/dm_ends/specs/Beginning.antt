-- How the ends stand to each other where a session begins.
use Rattle.std.specs.Prelude.{Bool, false}
use Rattle.dm_headers.specs.declared.standings.Standing.{Standing}

-- whether it is this end's turn, and whether the other end is accepted without a credential
abbrev pub first_standing : Bool → Bool → Standing
first_standing heard accepted = record {
  last = 0;
  own = 0;
  heard = heard;
  room = 16384;
  they_failed = false;
  we_failed = false;
  accepted = accepted;
  welcomed = false;
}
