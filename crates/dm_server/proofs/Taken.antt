-- What an answer tells over a network.
use Rattle.std.proofs.Common.{◌≡◌, Some, None, ap}
use Rattle.std.specs.Prelude.{IsSomeAnd, option_map}
use Rattle.std.specs.declared.option.Option.{Option}
use Rattle.syncml_types.specs.Message.{Parts}
use Rattle.syncml_types.specs.Canonical.{canonical}
use Rattle.dm_core.specs.Machines.{message}
use Rattle.dm_service.specs.Events.{Answer, sent, kept}
use Rattle.dm_server.specs.Taking.{core_reply}

pub sent_tells : (o : Option Parts) (a : Answer) → IsSomeAnd o (λ m. a ≡ sent m)
    → IsSomeAnd (option_map canonical o) (λ b. core_reply a ≡ message b)
sent_tells None a h = absurd h
sent_tells (Some m) a h = ap core_reply h

pub kept_tells : (o : Option Parts) (a : Answer) → IsSomeAnd o (λ m. a ≡ kept m)
    → IsSomeAnd (option_map canonical o) (λ b. core_reply a ≡ message b)
kept_tells None a h = absurd h
kept_tells (Some m) a h = ap core_reply h
