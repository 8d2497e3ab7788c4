use Rattle.std.proofs.Common.{refl, sym, ap, ◌∙◌, subst}
use Rattle.std.specs.Prelude.{Some}
use Rattle.syncml_codec.specs.Decoding.{HasDecoded}
use Rattle.syncml_codec.proofs.Feeding.{fed_ok, fed_error}
use Rattle.syncml_codec.proofs.decoder.Decoder.read.Goals as goal

pub returns-in-Ok-clause-told : goal.returns-in-Ok-clause-told
returns-in-Ok-clause-told c bytes h =
    (fed_ok (record {
      reader = c.self.inside.reader;
      building = c.self.inside.builder;
      length = c.self.inside.length;
      stopped = c.self.inside.stopped;
    })
    (record {
      reader = c.feed.new.self;
      building = c.feed.new.taker;
      length = c.saturating_add-self-inside.result;
      stopped = c.self.inside.stopped;
    })
    bytes c.args.piece.now (subst (λ d. HasDecoded d bytes) (sym c.self.view_is) h)
    (ap (λ d. d.stopped) c.self.view_is ∙ c.requires)
    (ap (λ d. d.stopped) c.self.view_is ∙ c.requires) c.in-Ok.ensures.feeds c.in-Ok.ensures.ok
    c.saturating_add-self-inside.ensures).0

pub returns-in-Ok-clause-decoded : goal.returns-in-Ok-clause-decoded
returns-in-Ok-clause-decoded c bytes h =
    (fed_ok (record {
      reader = c.self.inside.reader;
      building = c.self.inside.builder;
      length = c.self.inside.length;
      stopped = c.self.inside.stopped;
    })
    (record {
      reader = c.feed.new.self;
      building = c.feed.new.taker;
      length = c.saturating_add-self-inside.result;
      stopped = c.self.inside.stopped;
    })
    bytes c.args.piece.now (subst (λ d. HasDecoded d bytes) (sym c.self.view_is) h)
    (ap (λ d. d.stopped) c.self.view_is ∙ c.requires)
    (ap (λ d. d.stopped) c.self.view_is ∙ c.requires) c.in-Ok.ensures.feeds c.in-Ok.ensures.ok
    c.saturating_add-self-inside.ensures).1

pub returns-in-Err-clause-told : goal.returns-in-Err-clause-told
returns-in-Err-clause-told c bytes h =
    (fed_error (record {
      reader = c.self.inside.reader;
      building = c.self.inside.builder;
      length = c.self.inside.length;
      stopped = c.self.inside.stopped;
    })
    (record {
      reader = c.feed.new.self;
      building = c.feed.new.taker;
      length = c.self.inside.length;
      stopped = Some c.in-Err.error;
    })
    bytes c.args.piece.now c.in-Err.error (subst (λ d. HasDecoded d bytes) (sym c.self.view_is) h)
    (ap (λ d. d.stopped) c.self.view_is ∙ c.requires) c.in-Err.ensures.feeds refl).0

pub returns-in-Err-clause-decoded : goal.returns-in-Err-clause-decoded
returns-in-Err-clause-decoded c bytes h =
    (fed_error (record {
      reader = c.self.inside.reader;
      building = c.self.inside.builder;
      length = c.self.inside.length;
      stopped = c.self.inside.stopped;
    })
    (record {
      reader = c.feed.new.self;
      building = c.feed.new.taker;
      length = c.self.inside.length;
      stopped = Some c.in-Err.error;
    })
    bytes c.args.piece.now c.in-Err.error (subst (λ d. HasDecoded d bytes) (sym c.self.view_is) h)
    (ap (λ d. d.stopped) c.self.view_is ∙ c.requires) c.in-Err.ensures.feeds refl).1
