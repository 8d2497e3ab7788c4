use Rattle.std.proofs.Common.{◌∙◌, ◌-◌, ap, refl, get_or}
use Rattle.dm_pair.specs.Seen.{seen}
use Rattle.dm_pair.proofs.Both.{sent_at, up_stepped}
use Rattle.dm_pair.proofs.pairing.up.Goals as goal

pub returns-clause-step : goal.returns-clause-step
returns-clause-step c =
    let element = c.index-as_slice-number.result in
    let there = c.index-as_slice-number.is ∙ ap (λ l. get_or l (c.args.number - 1) element) c.as_slice.ensures in
    up_stepped (seen c.args.pairing.now) c.as_slice-2.result.now _ c.server_word.result.now _ _ _
    (c.as_slice-2.ensures ∙ sent_at _ c.args.number element c.requires.number.0 c.requires.number.1 there)
    (record {
      nonce = c.nonce_of-nonce.result.bytes;
      told = c.nonce_of-nonce.ensures;
      server = c.in_ok-answer.ensures.server;
      downs_are = c.in_ok-answer.ensures.downs;
      count = refl;
    })
    (c.server_word.ensures _ _ c.in_ok-answer.ensures.answer)
