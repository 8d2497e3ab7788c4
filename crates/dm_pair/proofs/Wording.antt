-- What answers are called, and what they send.
use Rattle.std.proofs.Common.{◌≡◌, ◌∙◌, List, [], ℕ, Bool, true, false, Option, Some, None, refl, sym, ap}
use Rattle.std.proofs.Common.{codes, subst, if◌then◌else◌}
use Rattle.std.specs.Prelude.{option_map, IsSomeAnd}
use Rattle.syncml_types.specs.Message.{Parts}
use Rattle.syncml_types.specs.Canonical.{canonical}
use Rattle.dm_machine.specs.Machine.{Machine, Session}
use Rattle.dm_machine.specs.Events as client
use Rattle.dm_machine.specs.Events.{sent, kept, stale, stranger, no_session, refused, exhausted, ended, acted, not_now}
use Rattle.dm_machine.specs.Events.{loss, act, loss_answer, takes, taken_answer, refusal}
use Rattle.dm_machine.specs.History as client_runs
use Rattle.dm_service.specs.Service.{Service}
use Rattle.dm_service.specs.Events as server
use Rattle.dm_session.specs.declared.answers.Answer.{Answer}
use Rattle.dm_session.specs.declared.answers.Answer.TheVariants as answers
use Rattle.dm_session.specs.declared.answers.Acted.TheVariants as acts
use Rattle.dm_session.specs.View.{Tells, TellsActed, sent_last}
use Rattle.dm_server.specs.declared.answers.ServerAnswer.{ServerAnswer}
use Rattle.dm_server.specs.declared.answers.ServerAnswer.TheVariants as served
use Rattle.dm_server.specs.View.{Tells as TellsServed}
use Rattle.dm_pair.specs.Pairing.{client_words, server_word, stop_word, end_word, ended_words, sent_up}

-- ---- the client's words

abbrev pub words_of : Answer → List ℕ
words_of answers.Sent = codes "sent"
words_of answers.Kept = codes "kept"
words_of (answers.Stale last) = codes "stale"
words_of answers.Stranger = codes "stranger"
words_of answers.NoSession = codes "nosession"
words_of (answers.Refused refusal) = codes "refused"
words_of (answers.Ended end) = ended_words end

pub sent_words : (o : Option Session) (a : client.Answer) → IsSomeAnd o (λ (s : Session). a ≡ sent s.sent)
    → codes "sent" ≡ client_words a
unfolding client_words
sent_words None a h = absurd h
sent_words (Some s) a h = sym (ap client_words h)

kept_words : (o : Option Session) (a : client.Answer) → IsSomeAnd o (λ (s : Session). a ≡ kept s.sent)
    → codes "kept" ≡ client_words a
unfolding client_words
kept_words None a h = absurd h
kept_words (Some s) a h = sym (ap client_words h)

pub words_told : (x : Answer) (c : Machine) (a : client.Answer) → Tells x c a → words_of x ≡ client_words a
unfolding client_words
words_told answers.Sent c a h = sent_words c.session a h
words_told answers.Kept c a h = kept_words c.session a h
words_told (answers.Stale last) c a h = sym (ap client_words h)
words_told answers.Stranger c a h = sym (ap client_words h)
words_told answers.NoSession c a h = sym (ap client_words h)
words_told (answers.Refused refusal) c a h = sym (ap client_words h)
words_told (answers.Ended end) c a h = sym (ap client_words h)

pub words_said : (x y : Answer) (c : Machine) (a : client.Answer) → x ≡ y → Tells x c a → words_of y ≡ client_words a
words_said x y c a is h = words_told y c a (subst (λ z. Tells z c a) is h)

-- ---- what isn't a message

loss_answered : (c : Machine) → client_runs.answer_now c loss ≡ loss_answer c.session
unfolding client_runs.answer_now takes refusal
loss_answered c = refl

again_by : (o : Option Session) (bytes : List ℕ) → Some bytes ≡ option_map (λ (s : Session). canonical s.sent) o
    → codes "again" ≡ client_words (loss_answer o)
unfolding client_words
again_by None bytes h = cc
again_by (Some s) bytes h = refl

nobody_by : (o : Option Session) → (let none : Option (List ℕ) = None in none)
    ≡ option_map (λ (s : Session). canonical s.sent) o
    → codes "nosession" ≡ client_words (loss_answer o)
unfolding client_words
nobody_by None h = refl
nobody_by (Some s) h = cc

pub again_words : (c : Machine) (bytes : List ℕ) → Some bytes ≡ sent_last c
    → codes "again" ≡ client_words (client_runs.answer_now c loss)
again_words c bytes h = again_by c.session bytes h ∙ ap client_words (sym (loss_answered c))

pub nobody_words : (c : Machine) → (let none : Option (List ℕ) = None in none) ≡ sent_last c
    → codes "nosession" ≡ client_words (client_runs.answer_now c loss)
nobody_words c h = nobody_by c.session h ∙ ap client_words (sym (loss_answered c))

pub loss_sends : (c : Machine) → sent_up (client_runs.answer_now c loss) ≡ []
loss_sends c = ap sent_up (loss_answered c) ∙ by_session c.session
  where
    by_session : (o : Option Session) → sent_up (loss_answer o) ≡ []
    by_session None = refl
    by_session (Some s) = refl

pub act_sends : (c : Machine) (ok : Bool) → sent_up (client_runs.answer_now c (act ok)) ≡ []
unfolding client_runs.answer_now taken_answer refusal
act_sends c ok = by_test (takes c (act ok))
  where
    by_test : (b : Bool) → sent_up (if b then acted else not_now) ≡ []
    by_test true = refl
    by_test false = refl

pub done_words : (a : client.Answer) → TellsActed acts.Done a → codes "acted" ≡ client_words a
unfolding client_words
done_words a h = sym (ap client_words h)

pub unready_words : (a : client.Answer) → TellsActed acts.NotNow a → codes "notnow" ≡ client_words a
unfolding client_words
unready_words a h = sym (ap client_words h)

pub exhausted_words : (a : client.Answer) (last : ℕ) → a ≡ exhausted last → codes "exhausted" ≡ client_words a
unfolding client_words
exhausted_words a last h = sym (ap client_words h)

-- ---- why no round follows

abbrev pub stop_of : Answer → Option (List ℕ)
stop_of answers.Sent = None
stop_of answers.Kept = Some (codes "kept")
stop_of (answers.Stale last) = Some (codes "stale")
stop_of answers.Stranger = Some (codes "stranger")
stop_of answers.NoSession = Some (codes "nosession")
stop_of (answers.Refused refusal) = Some (codes "refused")
stop_of (answers.Ended end) = Some (end_word end)

sent_stop : (o : Option Session) (a : client.Answer) → IsSomeAnd o (λ (s : Session). a ≡ sent s.sent)
    → (let none : Option (List ℕ) = None in none) ≡ stop_word a
sent_stop None a h = absurd h
sent_stop (Some s) a h = sym (ap stop_word h)

kept_stop : (o : Option Session) (a : client.Answer) → IsSomeAnd o (λ (s : Session). a ≡ kept s.sent)
    → Some (codes "kept") ≡ stop_word a
unfolding client_words
kept_stop None a h = absurd h
kept_stop (Some s) a h = sym (ap stop_word h)

stop_told : (x : Answer) (c : Machine) (a : client.Answer) → Tells x c a → stop_of x ≡ stop_word a
unfolding client_words
stop_told answers.Sent c a h = sent_stop c.session a h
stop_told answers.Kept c a h = kept_stop c.session a h
stop_told (answers.Stale last) c a h = sym (ap stop_word h)
stop_told answers.Stranger c a h = sym (ap stop_word h)
stop_told answers.NoSession c a h = sym (ap stop_word h)
stop_told (answers.Refused refusal) c a h = sym (ap stop_word h)
stop_told (answers.Ended end) c a h = sym (ap stop_word h)

pub stop_said : (x y : Answer) (c : Machine) (a : client.Answer) → x ≡ y → Tells x c a → stop_of y ≡ stop_word a
stop_said x y c a is h = stop_told y c a (subst (λ z. Tells z c a) is h)

-- ---- the server's word

abbrev pub word_of : ServerAnswer → List ℕ
word_of served.Sent = codes "sent"
word_of served.Kept = codes "kept"
word_of served.Stale = codes "stale"
word_of served.Stranger = codes "stranger"
word_of (served.Refused refusal) = codes "refused"
word_of served.Ended = codes "ended"

sent_word : (o : Option Parts) (a : server.Answer) → IsSomeAnd o (λ m. a ≡ server.sent m)
    → codes "sent" ≡ server_word a
unfolding server_word
sent_word None a h = absurd h
sent_word (Some m) a h = sym (ap server_word h)

kept_word : (o : Option Parts) (a : server.Answer) → IsSomeAnd o (λ m. a ≡ server.kept m)
    → codes "kept" ≡ server_word a
unfolding server_word
kept_word None a h = absurd h
kept_word (Some m) a h = sym (ap server_word h)

pub word_told : (x : ServerAnswer) (v : Service) (a : server.Answer) → TellsServed x v a → word_of x ≡ server_word a
unfolding server_word
word_told served.Sent v a h = sent_word v.sent a h
word_told served.Kept v a h = kept_word v.sent a h
word_told served.Stale v a h = sym (ap server_word h)
word_told served.Stranger v a h = sym (ap server_word h)
word_told (served.Refused refusal) v a h = sym (ap server_word h)
word_told served.Ended v a h = sym (ap server_word h)

pub word_said : (x y : ServerAnswer) (v : Service) (a : server.Answer) → x ≡ y → TellsServed x v a
    → word_of y ≡ server_word a
word_said x y v a is h = word_told y v a (subst (λ z. TellsServed z v a) is h)
