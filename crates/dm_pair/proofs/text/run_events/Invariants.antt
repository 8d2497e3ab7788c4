use Rattle.std.proofs.Common.{◌≡◌, ◌≤◌, ◌+◌, ◌*◌, length}
use Rattle.dm_pair.specs.Texts.{happening, behind_text}
use Rattle.dm_pair.specs.From.{rest_written}
use Rattle.dm_pair.specs.Seen.{seen}
use Rattle.dm_pair.proofs.text.run_events.Given as goal

abbrev pub invariant-events : goal.invariant-events
invariant-events l = record {
  number : l.number + length l.rest ≤ l.fn.first + length l.fn.text;
  few : l.pairing.deliveries ≤ 200000 * l.number;
  accounts : length l.ids ≡ length l.pairing.client.machine.accounts;
  written : rest_written l.fn.first (happening l.ids (seen l.fn.pairing)) l.fn.text
      ≡ behind_text l.out (rest_written l.number (happening l.ids (seen l.pairing)) l.rest);
}

abbrev pub decreases-events : goal.decreases-events
decreases-events l = length l.rest
