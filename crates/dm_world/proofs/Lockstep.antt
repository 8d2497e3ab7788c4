-- Both ends take turns, in numbers: what holds of the two sessions and of all that was sent, and what each event keeps.
use Rattle.std.proofs.Common.{◌≡◌, ◌<◌, ◌≤◌, ◌+◌, ◌^◌, ℕ, false, List, [], ◌∷◌, Option, None, Some, refl}
use Rattle.std.proofs.Common.{sym}
use Rattle.std.proofs.Common.{◌∙◌, ap, subst, arith, ◌⊎◌, inl, inr}
use Rattle.syncml_types.specs.Message.{Parts}
use Rattle.dm_headers.specs.Checks.{fault_of}
use Rattle.dm_machine.specs.Machine.{Session as Opened}
use Rattle.dm_service.specs.Service.{Session as Serving}
use Rattle.dm_world.specs.World.{Reply, with_new}
use Rattle.dm_world.specs.Lockstep.{first_of}
use Rattle.dm_world.proofs.Lists.{Each, StandsIn, each-map, each-within}
use Rattle.dm_world.proofs.Numbers.{session_number, IsRead, HasNumbers, IsSent, Numbered, sent-numbered}
use Rattle.dm_world.proofs.Client.{MaybeSent, Begun, Turns}

-- ---- what holds of each part

-- of the MsgID of a message of the client, by what the server has taken
abbrev pub Bound : Option Serving → ℕ → ℕ → Type 0
Bound None n k = k ≤ 1
Bound (Some y) n k = (n ≡ y.progress.number → k ≤ y.progress.standing.last + 1) × (y.progress.number < n → k ≤ 1)

pub record UpOk (b : ℕ) (v : Option Serving) (u : Parts) : Type 0 where
  pub read : IsRead u
  pub low : 0 < session_number u
  pub high : session_number u ≤ b
  pub first : 0 < u.header.msg
  pub bound : Bound v (session_number u) u.header.msg
  pub sound : fault_of u ≡ None
  pub body : HasNumbers u

pub record DownFine (n own : ℕ) (ups : List Parts) (d : Reply) : Type 0 where
  pub read : IsRead d.message
  pub high : session_number d.message ≤ n
  pub first : 0 < d.message.header.msg
  pub own_is : session_number d.message ≡ n → d.message.header.msg ≤ own
  pub same : session_number d.answers ≡ session_number d.message
  pub id : d.answers.header.msg ≡ d.message.header.msg
  pub there : StandsIn d.answers ups
  pub sound : fault_of d.message ≡ None
  pub body : HasNumbers d.message

abbrev pub DownOk : Option Serving → List Parts → Reply → Type 0
DownOk None ups d = ⊥
DownOk (Some y) ups d = DownFine y.progress.number y.progress.standing.own ups d

-- an older message
pub record Below (n k : ℕ) (u : Parts) : Type 0 where
  pub session : session_number u ≤ n
  pub id : session_number u ≡ n → u.header.msg < k

-- the newest first, each with greater numbers than those before it
abbrev pub Falls : {A : Type 0} → (A → Parts) → List A → Type 0
Falls f [] = Unit {0}
Falls f (x ∷ xs) = Each (λ y. Below (session_number (f x)) (f x).header.msg (f y)) xs × Falls f xs

abbrev pub itself : Parts → Parts
itself u = u

abbrev pub message_of : Reply → Parts
message_of d = d.message

abbrev pub NewestIs : ℕ → ℕ → Option Parts → Type 0
NewestIs n k None = ⊥
NewestIs n k (Some u) = (session_number u ≡ n) × (u.header.msg ≡ k)

pub record ClientFine (b : ℕ) (ups : List Parts) (s : Opened) : Type 0 where
  pub number : s.progress.number ≡ b
  pub own : s.progress.standing.own ≡ s.progress.standing.last + 1
  pub low : 0 < b
  pub high : b < 2 ^ 32
  pub newest : NewestIs b s.progress.standing.own (first_of ups)

abbrev pub ClientOk : ℕ → List Parts → Option Opened → Type 0
ClientOk b ups None = Unit {0}
ClientOk b ups (Some s) = ClientFine b ups s

pub record ServerFine (b : ℕ) (y : Serving) : Type 0 where
  pub number : y.progress.number ≤ b
  pub low : 0 < y.progress.standing.last
  pub own : y.progress.standing.own ≤ y.progress.standing.last
  pub even : y.progress.is_over ≡ false → y.progress.standing.own ≡ y.progress.standing.last

abbrev pub ServerOk : ℕ → Option Serving → Type 0
ServerOk b None = Unit {0}
ServerOk b (Some y) = ServerFine b y

pub record PairFine (s : Opened) (y : Serving) : Type 0 where
  pub took : y.progress.number ≡ s.progress.number → s.progress.standing.last ≤ y.progress.standing.own
  pub served : y.progress.number ≡ s.progress.number → y.progress.standing.last ≤ s.progress.standing.own
  pub later : y.progress.number < s.progress.number → s.progress.standing.last ≡ 0

abbrev pub PairOk : Option Opened → Option Serving → Type 0
PairOk None v = Unit {0}
PairOk (Some s) None = s.progress.standing.last ≡ 0
PairOk (Some s) (Some y) = PairFine s y

pub record Holds (b : ℕ) (o : Option Opened) (v : Option Serving) (downs : List Reply) (ups : List Parts) : Type 0 where
  pub limit : b < 2 ^ 32
  pub client_ok : ClientOk b ups o
  pub server_ok : ServerOk b v
  pub pair_ok : PairOk o v
  pub downs_ok : Each (DownOk v ups) downs
  pub ups_ok : Each (UpOk b v) ups
  pub downs_fall : Falls message_of downs
  pub ups_fall : Falls itself ups

-- ---- a message more

up-later : (b b' : ℕ) (v : Option Serving) → b ≤ b' → (u : Parts) → UpOk b v u → UpOk b' v u
up-later b b' v le u h = record {
  read = h.read;
  low = h.low;
  high = (let l = h.high in omega (arith, l, le));
  first =
      h.first;
  bound = h.bound;
  sound = h.sound;
  body = h.body;
}

down-later : (v : Option Serving) (ups : List Parts) (m : Parts) (d : Reply) → DownOk v ups d → DownOk v (m ∷ ups) d
down-later None ups m d h = h
down-later (Some y) ups m d h = record {
  read = h.read;
  high = h.high;
  first = h.first;
  own_is = h.own_is;
  same =
      h.same;
  id = h.id;
  there = inr h.there;
  sound = h.sound;
  body = h.body;
}

server-later : (b b' : ℕ) (v : Option Serving) → b ≤ b' → ServerOk b v → ServerOk b' v
server-later b b' None le h = h
server-later b b' (Some y) le h = record {
  number = (let l = h.number in omega (arith, l, le));
  low = h.low;
  own =
      h.own;
  even = h.even;
}

below-new : (b : ℕ) (v : Option Serving) (n : ℕ) → b < n → (u : Parts) → UpOk b v u → Below n 1 u
below-new b v n l u h = record {
  session = (let e = h.high in omega (arith, e, l));
  id = λ e. absurd
      (let k = h.high in omega (arith, k, l, e));
}

below-at : (n k n' k' : ℕ) → n ≡ n' → k ≡ k' → (u : Parts) → Below n k u → Below n' k' u
below-at n k n' k' e f u h = rw e at (rw f at h)

-- the newest is above all others
pub top : (ups : List Parts) (n k : ℕ) → NewestIs n k (first_of ups) → Falls itself ups → Each (Below n (k + 1)) ups
top [] n k e h = tt
top (u ∷ us) n k e h = (
  record { session = (let a = e.0 in omega (arith, a)); id = λ x. (let a = e.1 in omega (arith, a)) },
  each-map (λ x (g : Below (session_number u) u.header.msg x). below-wider u n k e x g) us h.0,
)
  where
    below-wider : (u : Parts) (n k : ℕ) → (session_number u ≡ n) × (u.header.msg ≡ k) → (x : Parts)
        → Below (session_number u) u.header.msg x → Below n (k + 1) x
    below-wider u n k e x g = record {
      session = (let a = e.0 in let l = g.session in omega (arith, a, l));
      id = λ y.
          (let a = e.0 in let c = e.1 in let l = g.id (y ∙ sym a) in omega (arith, c, l));
    }

bound-new : (b : ℕ) (v : Option Serving) (n : ℕ) → b < n → ServerOk b v → Bound v n 1
bound-new b None n l h = omega arith
bound-new b (Some y) n l h = (λ e. omega arith, λ e. omega arith)

pair-new : (b n : ℕ) (t : Opened) (v : Option Serving) → b < n → Begun n t → ServerOk b v → PairOk (Some t) v
pair-new b n t None l h k = h.last
pair-new b n t (Some y) l h k = record {
  took = λ e. absurd (none e);
  served = λ e. absurd (none e);
  later = λ e. h.last;
}
  where
    none : y.progress.number ≡ t.progress.number → ⊥
    none e = let a = k.number in let c = h.number in omega (arith, a, c, e, l)

-- the client begins a session
pub begun-holds : (b : ℕ) (o : Option Opened) (v : Option Serving) (downs : List Reply) (ups : List Parts) (n : ℕ)
    (t : Opened) (m : Parts)
    → Holds b o v downs ups → b < n → n < 2 ^ 32 → Begun n t → IsSent n 1 m → Holds n (Some t) v downs (m ∷ ups)
begun-holds b o v downs ups n t m h l high g i =
    let x = sent-numbered n 1 m (omega (arith, l)) high i in
    let le : b ≤ n = omega (arith, l) in
    record {
      limit = high;
      client_ok = record {
        number = g.number;
        own = (let a = g.last in let c = g.own in omega (arith, a, c));
        low =
            omega (arith, l);
        high = high;
        newest = (x.session, x.id ∙ sym g.own);
      };
      server_ok = server-later b n v le h.server_ok;
      pair_ok = pair-new b n t v l g h.server_ok;
      downs_ok = each-map (down-later v ups m) downs h.downs_ok;
      ups_ok = (
        record {
          read = x.read;
          low = (let e = x.session in omega (arith, e, l));
          high = (let e = x.session in omega (arith, e));
          first = (let e = x.id in omega (arith, e));
          bound = subst (λ k. Bound v (session_number m) k) (sym x.id) (subst (λ k. Bound v k 1) (sym x.session)
              (bound-new b v n l h.server_ok));
          sound = x.sound;
          body = x.body;
        },
        each-map (up-later b n v le) ups h.ups_ok,
      );
      downs_fall = h.downs_fall;
      ups_fall = (
        each-map (λ u (k : UpOk b v u). below-at n 1 (session_number m) m.header.msg (sym x.session)
            (sym x.id) u (below-new b v n l u k)) ups h.ups_ok,
        h.ups_fall,
      );
    }

-- ---- a message comes to the client

pub record NextIs (b : ℕ) (s : Opened) (y : Serving) (d : Reply) : Type 0 where
  pub number : y.progress.number ≡ b
  pub id : d.message.header.msg ≡ s.progress.standing.last + 1
  pub own : y.progress.standing.own ≡ d.message.header.msg
  pub last : y.progress.standing.last ≡ s.progress.standing.own
  pub session : session_number d.message ≡ b
  pub answers : session_number d.answers ≡ b
  pub answers_id : d.answers.header.msg ≡ s.progress.standing.own

abbrev pub NextOk : ℕ → Opened → Option Serving → Reply → Type 0
NextOk b s None d = ⊥
NextOk b s (Some y) d = NextIs b s y d

next-in : (b : ℕ) (s : Opened) (v : Option Serving) (ups : List Parts) (d : Reply) → ClientFine b ups s → ServerOk b v
    → PairOk (Some s) v → DownOk v ups d
    → session_number d.message ≡ s.progress.number → s.progress.standing.last < d.message.header.msg → NextOk b s v d
next-in b s None ups d c k p h e l = absurd h
next-in b s (Some y) ups d c k p h e l =
    let number : y.progress.number ≡ b = let a = h.high in let f = c.number in let g = k.number in omega
    (arith, a, f, g, e) in
    let took = p.took (number ∙ sym c.number) in
    let served = p.served (number ∙ sym c.number) in
    let own = h.own_is (e ∙ (c.number ∙ sym number)) in
    let even = k.own in
    let mine = c.own in
    let id : d.message.header.msg ≡ s.progress.standing.last + 1 = omega (arith, took, served, own, even, mine, l) in
    record {
      number = number;
      id = id;
      own = omega (arith, took, served, own, even, mine, l);
      last = omega (arith, took, served, own, even, mine, l);
      session = e ∙ c.number;
      answers = h.same ∙ (e ∙ c.number);
      answers_id = h.id ∙ (id ∙ sym mine);
    }

pub next-is : (b : ℕ) (s : Opened) (v : Option Serving) (downs : List Reply) (ups : List Parts) (d : Reply)
    → Holds b (Some s) v downs ups → StandsIn d downs
    → session_number d.message ≡ s.progress.number → s.progress.standing.last < d.message.header.msg → NextOk b s v d
next-is b s v downs ups d h w e l = next-in b s v ups d h.client_ok h.server_ok h.pair_ok
    (each-within (DownOk v ups) downs d h.downs_ok w) e l

pair-turned : (b : ℕ) (s t : Opened) (v : Option Serving) (d : Reply) → PairOk (Some s) v → s.progress.number ≡ b
    → s.progress.standing.own ≡ s.progress.standing.last + 1 → NextOk b s v d → t.progress.number ≡ s.progress.number
    → t.progress.standing.last ≡ d.message.header.msg → t.progress.standing.own ≡ s.progress.standing.own + 1
    → PairOk (Some t) v
pair-turned b s t None d p c i x e f g = absurd x
pair-turned b s t (Some y) d p c i x e f g =
    let own = x.own in let last = x.last in let number = x.number in
    record {
      took = λ k. omega (arith, f, own);
      served = λ k. omega (arith, last, g);
      later = λ k. absurd
          (omega (arith, k, e, c, number));
    }

bound-turned : (b : ℕ) (s : Opened) (v : Option Serving) (d : Reply) → NextOk b s v d
    → Bound v b (s.progress.standing.own + 1)
bound-turned b s None d x = absurd x
bound-turned b s (Some y) d x = let last = x.last in let number = x.number in (
  λ e. omega (arith, last),
  λ e. absurd
      (omega (arith, e, number)),
)

-- what the client says in a session that is open
said-up : (b k : ℕ) (v : Option Serving) (ups : List Parts) (m : Parts) → Each (UpOk b v) ups → Each (Below b k) ups
    → Falls itself ups → Bound v b k → 0 < b → 0 < k → Numbered b k m
    → Each (UpOk b v) (m ∷ ups) × Falls itself (m ∷ ups)
said-up b k v ups m h t f bound low first x = (
  (
    record {
      read = x.read;
      low = (let e = x.session in omega (arith, e, low));
      high = (let e = x.session in omega (arith, e));
      first = (let e = x.id in omega (arith, e, first));
      bound = subst (λ i. Bound v (session_number m) i) (sym x.id) (subst (λ i. Bound v i k) (sym x.session) bound);
      sound = x.sound;
      body = x.body;
    },
    h,
  ),
  (
    each-map (λ u (g : Below b k u). below-at b k (session_number m) m.header.msg (sym x.session) (sym x.id) u g) ups t,
    f,
  ),
)

-- the client takes a message and goes on
pub turned-holds : (b : ℕ) (s t : Opened) (v : Option Serving) (downs : List Reply) (ups : List Parts) (d : Reply)
    (m : Parts) → Holds b (Some s) v downs ups → NextOk b s v d
    → Turns s.progress d.message.header.msg t → IsSent s.progress.number (s.progress.standing.own + 1) m
    → Holds b (Some t) v downs (m ∷ ups)
turned-holds b s t v downs ups d m h x g i =
    let c = h.client_ok in
    let n = sent-numbered b (s.progress.standing.own + 1) m c.low c.high
    (subst (λ k. IsSent k (s.progress.standing.own + 1) m) c.number i) in
    let u = said-up b (s.progress.standing.own + 1) v ups m h.ups_ok (top ups b s.progress.standing.own c.newest
    h.ups_fall) h.ups_fall (bound-turned b s v d x) c.low (omega arith) n in
    record {
      limit = h.limit;
      client_ok = record {
        number = g.number ∙ c.number;
        own = g.own ∙ ap (λ k. k + 1) (c.own ∙ last-is v x)
            ∙ ap (λ k. k + 1) (sym g.last);
        low = c.low;
        high = c.high;
        newest = (n.session, n.id ∙ sym g.own);
      };
      server_ok = h.server_ok;
      pair_ok = pair-turned b s t v d h.pair_ok c.number c.own x g.number g.last g.own;
      downs_ok = each-map (down-later v ups m) downs h.downs_ok;
      ups_ok = u.0;
      downs_fall = h.downs_fall;
      ups_fall = u.1;
    }
  where
    last-is : (v : Option Serving) → NextOk b s v d → s.progress.standing.last + 1 ≡ d.message.header.msg
    last-is None x = absurd x
    last-is (Some y) x = sym x.id

-- the client's session ends, perhaps with a farewell
pub ended-holds : (b : ℕ) (s : Opened) (v : Option Serving) (downs : List Reply) (ups : List Parts) (d : Reply)
    (m : Option Parts) → Holds b (Some s) v downs ups → NextOk b s v d
    → MaybeSent s.progress.number (s.progress.standing.own + 1) m → Holds b None v downs (with_new ups m)
ended-holds b s v downs ups d None h x i = record {
  limit = h.limit;
  client_ok = tt;
  server_ok = h.server_ok;
  pair_ok =
      tt;
  downs_ok = h.downs_ok;
  ups_ok = h.ups_ok;
  downs_fall = h.downs_fall;
  ups_fall = h.ups_fall;
}
ended-holds b s v downs ups d (Some m) h x i =
    let c = h.client_ok in
    let n = sent-numbered b (s.progress.standing.own + 1) m c.low c.high
    (subst (λ k. IsSent k (s.progress.standing.own + 1) m) c.number i) in
    let u = said-up b (s.progress.standing.own + 1) v ups m h.ups_ok (top ups b s.progress.standing.own c.newest
    h.ups_fall) h.ups_fall (bound-turned b s v d x) c.low (omega arith) n in
    record {
      limit = h.limit;
      client_ok = tt;
      server_ok = h.server_ok;
      pair_ok = tt;
      downs_ok = each-map
          (down-later v ups m) downs h.downs_ok;
      ups_ok = u.0;
      downs_fall = h.downs_fall;
      ups_fall = u.1;
    }

-- ---- a message comes to the server

-- how many messages the server has sent in the session of this one
abbrev pub Before : Option Serving → ℕ → ℕ → Type 0
Before None n own = own ≡ 0
Before (Some y) n own = ((y.progress.number < n) × (own ≡ 0)) ⊎
    ((y.progress.number ≡ n) × (own ≡ y.progress.standing.own) × (own ≡ y.progress.standing.last) ×
    (y.progress.is_over ≡ false))

-- the message is the next one
pub is-next-up : (v : Option Serving) (n own k : ℕ) → Before v n own → Bound v n k → own < k → k ≡ own + 1
is-next-up None n own k b h l = omega (arith, b, h, l)
is-next-up (Some y) n own k (inl b) h l = let g = h.1 b.0 in let z = b.1 in omega (arith, g, z, l)
is-next-up (Some y) n own k (inr b) h l = let g = h.0 (sym b.0) in let z = b.2 in omega (arith, g, z, l)

bound-served : (v : Option Serving) (n own k : ℕ) (t : Serving) → Before v n own → k ≡ own + 1 → t.progress.number ≡ n
    → t.progress.standing.last ≡ k → (i j : ℕ) → Bound v i j → Bound (Some t) i j
bound-served None n own k t b e f g i j h = (λ x. omega (arith, h, g), λ x. omega (arith, h))
bound-served (Some y) n own k t (inl b) e f g i j h =
    let low = b.0 in (
      λ x. let a = h.1 (omega (arith, low, f, x)) in omega (arith, a, g),
      λ x. let a = h.1
          (omega (arith, low, f, x)) in omega (arith, a),
    )
bound-served (Some y) n own k t (inr b) e f g i j h =
    let same = b.0 in let own_is = b.2 in (
      λ x. let a = h.0 (omega (arith, same, f, x)) in omega (arith, a, g, e, own_is),
      λ x. let a = h.1
          (omega (arith, same, f, x)) in omega (arith, a),
    )

up-served : (b : ℕ) (v : Option Serving) (n own k : ℕ) (t : Serving) → Before v n own → k ≡ own + 1
    → t.progress.number ≡ n → t.progress.standing.last ≡ k → (u : Parts) → UpOk b v u → UpOk b (Some t) u
up-served b v n own k t h e f g u x =
    record {
      read = x.read;
      low = x.low;
      high = x.high;
      first = x.first;
      bound = bound-served v n own k t h e f g
          (session_number u) u.header.msg x.bound;
      sound = x.sound;
      body = x.body;
    }

-- the server's messages before this one
down-served : (v : Option Serving) (n own own' : ℕ) (ups : List Parts) (d : Reply) → Before v n own → own ≤ own'
    → DownOk v ups d → DownFine n own' ups d × Below n (own + 1) d.message
down-served None n own own' ups d b l h = absurd h
down-served (Some y) n own own' ups d (inl b) l h =
    let low = b.0 in let high = h.high in (
      record {
        read = h.read;
        high = omega (arith, low, high);
        first = h.first;
        own_is = λ e. absurd
            (omega (arith, low, high, e));
        same = h.same;
        id = h.id;
        there = h.there;
        sound = h.sound;
        body = h.body;
      },
      record { session = omega (arith, low, high); id = λ e. absurd (omega (arith, low, high, e)) },
    )
down-served (Some y) n own own' ups d (inr b) l h =
    let same = b.0 in let own_is = b.1 in let high = h.high in (
      record {
        read = h.read;
        high = omega (arith, same, high);
        first = h.first;
        own_is = λ e. (let a = h.own_is (e
            ∙ sym same) in omega (arith, a, own_is, l));
        same = h.same;
        id = h.id;
        there = h.there;
        sound = h.sound;
        body = h.body;
      },
      record {
        session = omega (arith, same, high);
        id = λ e. (let a = h.own_is (e ∙ sym same) in omega
            (arith, a, own_is));
      },
    )

pair-served : (b : ℕ) (o : Option Opened) (v : Option Serving) (ups : List Parts) (n own own' k : ℕ) (t : Serving)
    (u : Parts) → ClientOk b ups o → PairOk o v → Falls itself ups → StandsIn u ups → Before v n own → k ≡ own + 1
    → own ≤ own'
    → n ≤ b → session_number u ≡ n → u.header.msg ≡ k → t.progress.number ≡ n → t.progress.standing.last ≡ k
    → t.progress.standing.own ≡ own' → PairOk o (Some t)
pair-served b None v ups n own own' k t u c p f w h e l z su ku tn tl to = tt
pair-served b (Some s) v ups n own own' k t u c p f w h e l z su ku tn tl to =
    let below = each-within (Below b (s.progress.standing.own + 1)) ups u (top ups b s.progress.standing.own c.newest f)
    w in
    let cn = c.number in
    record {
      took = λ x. took v p h (omega (arith, x, tn, cn));
      served = λ x. let g = below.id (omega (arith, x, tn, su, cn)) in omega (arith, g, tl, ku);
      later = λ x. later v p h (omega (arith, x, tn));
    }
  where
    took : (v : Option Serving) → PairOk (Some s) v → Before v n own → n ≡ s.progress.number
        → s.progress.standing.last ≤ t.progress.standing.own
    took None p h x = omega (arith, p)
    took (Some y) p (inl h) x = let a = p.later (let g = h.0 in omega (arith, g, x)) in omega (arith, a)
    took (Some y) p (inr h) x = let a = p.took (h.0 ∙ x) in let g = h.1 in omega (arith, a, g, l, to)

    later : (v : Option Serving) → PairOk (Some s) v → Before v n own → n < s.progress.number
        → s.progress.standing.last ≡ 0
    later None p h x = p
    later (Some y) p (inl h) x = p.later (let g = h.0 in omega (arith, g, x))
    later (Some y) p (inr h) x = p.later (let g = h.0 in omega (arith, g, x))

pub record Serves (b : ℕ) (v : Option Serving) (ups : List Parts) (own own' : ℕ) (t : Serving) (u : Parts) : Type 0
  where
    pub fine : UpOk b v u
    pub within : StandsIn u ups
    pub before : Before v (session_number u) own
    pub next : u.header.msg ≡ own + 1
    pub number : t.progress.number ≡ session_number u
    pub last : t.progress.standing.last ≡ u.header.msg
    pub own_is : t.progress.standing.own ≡ own'
    pub low : own ≤ own'
    pub high : own' ≤ own + 1
    pub even : t.progress.is_over ≡ false → own' ≡ own + 1

-- the server takes a message, and has then sent `own'` messages in its session
served-base : (b : ℕ) (o : Option Opened) (v : Option Serving) (downs : List Reply) (ups : List Parts) (own own' : ℕ)
    (t : Serving) (u : Parts)
    → Holds b o v downs ups → Serves b v ups own own' t u → Holds b o (Some t) downs ups
served-base b o v downs ups own own' t u h x =
    let next = x.next in let high = x.high in let last = x.last in let own_is = x.own_is in
    record {
      limit = h.limit;
      client_ok = h.client_ok;
      server_ok = record {
        number = (let a = x.number in let c = x.fine.high in omega (arith, a, c));
        low = omega
            (arith, next, last);
        own = omega (arith, next, high, last, own_is);
        even = λ e.
            (let a = x.even e in omega (arith, a, own_is, last, next));
      };
      pair_ok = pair-served b o v ups (session_number u) own own' u.header.msg t u h.client_ok h.pair_ok h.ups_fall
          x.within x.before x.next x.low x.fine.high refl refl x.number x.last x.own_is;
      downs_ok = each-map (λ d (g : DownOk v ups d). subst (λ i. DownFine i t.progress.standing.own ups d)
          (sym x.number) (subst (λ i. DownFine (session_number u) i ups d) (sym x.own_is)
          (down-served v (session_number u) own own' ups d x.before x.low g).0)) downs h.downs_ok;
      ups_ok = each-map (up-served b v (session_number u) own u.header.msg t x.before x.next x.number x.last) ups
          h.ups_ok;
      downs_fall = h.downs_fall;
      ups_fall = h.ups_fall;
    }

-- it ended its session
pub over-holds : (b : ℕ) (o : Option Opened) (v : Option Serving) (downs : List Reply) (ups : List Parts) (own : ℕ)
    (t : Serving) (u : Parts)
    → Holds b o v downs ups → Serves b v ups own own t u → Holds b o (Some t) downs ups
over-holds b o v downs ups own t u h x = served-base b o v downs ups own own t u h x

-- it answered
pub sent-holds : (b : ℕ) (o : Option Opened) (v : Option Serving) (downs : List Reply) (ups : List Parts) (own : ℕ)
    (t : Serving) (u m : Parts)
    → Holds b o v downs ups → Serves b v ups own (own + 1) t u → IsSent (session_number u) (own + 1) m
    → Holds b o (Some t) (record { message = m; answers = u } ∷ downs) ups
sent-holds b o v downs ups own t u m h x i =
    let base = served-base b o v downs ups own (own + 1) t u h x in
    let n = sent-numbered (session_number u) (own + 1) m x.fine.low (let a = x.fine.high in let max = h.limit in omega
    (arith, a, max)) i in
    record {
      limit = h.limit;
      client_ok = h.client_ok;
      server_ok = base.server_ok;
      pair_ok = base.pair_ok;
      downs_ok = (
        record {
          read = n.read;
          high = (let a = n.session in let c = x.number in omega (arith, a, c));
          first = (let a = n.id in omega (arith, a));
          own_is = λ e. (let a = n.id in let c = x.own_is in omega (arith, a, c));
          same = sym n.session;
          id = x.next ∙ sym n.id;
          there = x.within;
          sound = n.sound;
          body = n.body;
        },
        base.downs_ok,
      );
      ups_ok = base.ups_ok;
      downs_fall = (
        each-map (λ d (g : DownOk v ups d). below-at (session_number u) (own + 1) (session_number m)
            m.header.msg (sym n.session) (sym n.id) d.message (down-served v (session_number u) own (own + 1) ups d
            x.before x.low g).1) downs h.downs_ok,
        h.downs_fall,
      );
      ups_fall = h.ups_fall;
    }
