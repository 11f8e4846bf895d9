-- What is due, as marks: the words and line feeds that it reads, without their offsets.
use Rattle.std.proofs.Common.{◌≡◌, ℕ, ◌+◌, ◌<◌, ◌≤◌, List, [], ◌∷◌, ◌++◌, map, length, Ok, Err, decimal, Result, sym, refl, ap, ◌∙◌, subst, append_assoc}
use Rattle.std.proofs.lemmas.List.{map-append}
use Rattle.texts.specs.declared.faults.TextFault.{TextFault}
use Rattle.texts.specs.Tokens.{Token, word, feed}
use Rattle.texts.specs.Judging.{State, Judged, ◌>>=◌, first_word, word_due, first_feed, line_end, beside}
use Rattle.texts.specs.Numbers.{numeral, within, number_due}
use Rattle.texts.specs.Written.{Mark, bytes, newline, mark, number}
use Rattle.texts.proofs.Spelling.{word_is_decimal, decimal_is_word, within_is, in_bounds}

-- the tokens read between two states of one text, and their marks
pub record Reads (s t : State) (ms : List Mark) : Type 0 where
  pub used : List Token
  pub split : s.tokens ≡ used ++ t.tokens
  pub marks : map mark used ≡ ms
  pub end : t.end ≡ s.end

pub reads_on : {s t u : State} {ms ns : List Mark} → Reads s t ms → Reads t u ns → Reads s u (ms ++ ns)
reads_on {s} {t} {u} p q = record {
  used = p.used ++ q.used;
  split = p.split ∙ ap (λ l. p.used ++ l) q.split ∙ sym (append_assoc p.used q.used u.tokens);
  marks = map-append mark p.used q.used ∙ (λ i. p.marks i ++ q.marks i);
  end = q.end ∙ p.end;
}

-- the last token read is a line feed
pub record LastFeed (s t : State) : Type 0 where
  pub before : List Token
  pub at : ℕ
  pub split : s.tokens ≡ before ++ (feed at ∷ t.tokens)
  pub after : t.at ≡ at + 1

pub feed_after : {s t u : State} {ms : List Mark} → Reads s t ms → LastFeed t u → LastFeed s u
feed_after {s} {t} {u} p q = record {
  before = p.used ++ q.before;
  at = q.at;
  split = p.split ∙ ap (λ l. p.used ++ l) q.split ∙ sym (append_assoc p.used q.before (feed q.at ∷ u.tokens));
  after = q.after;
}

-- what is granted is one value, and one state
pub same_both : {X : Type 0} {x y : X} {s t : State} → ◌≡◌ {A = Judged X} (Ok (x, s)) (Ok (y, t)) → (x ≡ y) × (s ≡ t)
same_both {X} {x} {y} {s} {t} e = let p : (x, s) ≡ (y, t) = cc in (ap (λ (q : X × State). q.0) p, ap (λ (q : X × State). q.1) p)

-- one step of a judgement that was granted
pub record Stepped {X Y : Type 0} (j : Judged X) (go : X → State → Result Y TextFault) (y : Y) : Type 0 where
  pub value : X
  pub state : State
  pub is : j ≡ Ok (value, state)
  pub on : go value state ≡ Ok y

pub stepped : {X Y : Type 0} (j : Judged X) (go : X → State → Result Y TextFault) (y : Y) → (j >>= go) ≡ Ok y → Stepped j go y
stepped (Ok p) go y e = record { value = p.0; state = p.1; is = refl; on = e }
stepped (Err f) go y e = absurd (cc)

-- what is left where the marks in front are these
pub record Leaves {X : Type 0} (j : Judged X) (x : X) (ms : List Mark) : Type 0 where
  pub state : State
  pub ok : j ≡ Ok (x, state)
  pub marks : map mark state.tokens ≡ ms

-- one step, and then the others
pub leaves_on : {X Y : Type 0} {j : Judged X} {x : X} {ms ns : List Mark} (go : X → State → Judged Y) {y : Y} (p : Leaves j x ms) → Leaves (go x p.state) y ns → Leaves (j >>= go) y ns
leaves_on go p q = record { state = q.state; ok = ap (λ j. j >>= go) p.ok ∙ q.ok; marks = q.marks }

first_word_reads : (end at : ℕ) (ts : List Token) (w : ℕ × List ℕ) (t : State) → first_word end ts ≡ Ok (w, t) → Reads (record { end = end; at = at; tokens = ts }) t (bytes w.1 ∷ [])
first_word_reads end at [] w t e = absurd (cc)
first_word_reads end at (feed o ∷ ts) w t e = absurd (cc)
first_word_reads end at (word o v ∷ ts) w t e =
    let p = same_both e in
    let s : State = record { end = end; at = at; tokens = word o v ∷ ts } in
    subst (λ u. Reads s u (bytes w.1 ∷ [])) p.1 (record { used = word o v ∷ []; split = refl; marks = ap (λ (u : ℕ × List ℕ). bytes u.1 ∷ []) p.0; end = refl })

pub word_reads : (s : State) (w : ℕ × List ℕ) (t : State) → word_due s ≡ Ok (w, t) → Reads s t (bytes w.1 ∷ [])
word_reads s w t e = first_word_reads s.end s.at s.tokens w t e

first_word_stands : (end at : ℕ) (ts : List Token) (w : List ℕ) (ms : List Mark) → map mark ts ≡ bytes w ∷ ms → (o : ℕ) × Leaves (first_word end ts) (o, w) ms
first_word_stands end at [] w ms e = absurd (cc)
first_word_stands end at (feed o ∷ ts) w ms e = absurd (cc)
first_word_stands end at (word o v ∷ ts) w ms e =
    let a : v ≡ w = cc in
    let b : map mark ts ≡ ms = cc in
    (o, record { state = record { end = end; at = o + length v; tokens = ts }; ok = ap (λ l. Ok ((o, l), record { end = end; at = o + length v; tokens = ts })) a; marks = b })

-- a word that is due and stands there
pub word_stands : (s : State) (w : List ℕ) (ms : List Mark) → map mark s.tokens ≡ bytes w ∷ ms → (o : ℕ) × Leaves (word_due s) (o, w) ms
word_stands s w ms e = first_word_stands s.end s.at s.tokens w ms e

first_feed_reads : (end at : ℕ) (ts : List Token) (u : Unit {0}) (t : State) → first_feed end ts ≡ Ok (u, t) → Reads (record { end = end; at = at; tokens = ts }) t (newline ∷ []) × LastFeed (record { end = end; at = at; tokens = ts }) t
first_feed_reads end at [] u t e = absurd (cc)
first_feed_reads end at (word o v ∷ ts) u t e = absurd (cc)
first_feed_reads end at (feed o ∷ ts) u t e =
    let s : State = record { end = end; at = at; tokens = feed o ∷ ts } in
    subst (λ v. Reads s v (newline ∷ []) × LastFeed s v) (same_both e).1 (record { used = feed o ∷ []; split = refl; marks = refl; end = refl }, record { before = []; at = o; split = refl; after = refl })

end_reads : (s : State) (u : Unit {0}) (t : State) → line_end s ≡ Ok (u, t) → Reads s t (newline ∷ []) × LastFeed s t
end_reads s u t e = first_feed_reads s.end s.at s.tokens u t e

first_feed_stands : (end : ℕ) (ts : List Token) (ms : List Mark) → map mark ts ≡ newline ∷ ms → Leaves (first_feed end ts) tt ms
first_feed_stands end [] ms e = absurd (cc)
first_feed_stands end (word o v ∷ ts) ms e = absurd (cc)
first_feed_stands end (feed o ∷ ts) ms e = record { state = record { end = end; at = o + 1; tokens = ts }; ok = refl; marks = cc }

end_stands : (s : State) (ms : List Mark) → map mark s.tokens ≡ newline ∷ ms → Leaves (line_end s) tt ms
end_stands s ms e = first_feed_stands s.end s.tokens ms e

abbrev pub said : {X : Type 0} → X → Unit {0} → State → Judged X
said x u s = Ok (x, s)

-- a line's end, with what the line says
pub line_reads : {X : Type 0} (s : State) (x y : X) (t : State) → (line_end s >>= said x) ≡ Ok (y, t) → Reads s t (newline ∷ []) × LastFeed s t × (x ≡ y)
line_reads s x y t e =
    let z = stepped (line_end s) (said x) (y, t) e in
    let same = same_both z.on in
    let p = subst (λ v. Reads s v (newline ∷ []) × LastFeed s v) same.1 (end_reads s z.value z.state z.is) in
    (p.0, p.1, same.0)

pub line_leaves : {X : Type 0} (s : State) (x : X) (ms : List Mark) → map mark s.tokens ≡ newline ∷ ms → Leaves (line_end s >>= said x) x ms
line_leaves s x ms e = let z = end_stands s ms e in leaves_on (said x) z (record { state = z.state; ok = refl; marks = z.marks })

beside_is : {X : Type 0} (r : Result X TextFault) (s t : State) (x : X) → beside r s ≡ Ok (x, t) → (r ≡ Ok x) × (s ≡ t)
beside_is (Ok y) s t x e = let p = same_both e in (ap Ok p.0, p.1)
beside_is (Err f) s t x e = absurd (cc)

-- a word that was read as something
module _ {X : Type 0} (look : ℕ → List ℕ → Result X TextFault) where
  pub record Looked (s t : State) (x : X) : Type 0 where
    pub at : ℕ
    pub w : List ℕ
    pub reads : Reads s t (bytes w ∷ [])
    pub is : look at w ≡ Ok x

  pub looked : (s t : State) (x : X) → (word_due s >>= λ w s. beside (look w.0 w.1) s) ≡ Ok (x, t) → Looked s t x
  looked s t x e =
      let p = stepped (word_due s) (λ w s. beside (look w.0 w.1) s) (x, t) e in
      let q = beside_is (look p.value.0 p.value.1) p.state t x p.on in
      record { at = p.value.0; w = p.value.1; reads = subst (λ u. Reads s u (bytes p.value.1 ∷ [])) q.1 (word_reads s p.value p.state p.is); is = q.0 }

  pub looks : (s : State) (x : X) (w : List ℕ) (ms : List Mark) → map mark s.tokens ≡ bytes w ∷ ms → ((at : ℕ) → look at w ≡ Ok x) → Leaves (word_due s >>= λ w s. beside (look w.0 w.1) s) x ms
  looks s x w ms e h =
      let p = word_stands s w ms e in
      leaves_on (λ w s. beside (look w.0 w.1) s) p.1 (record { state = p.1.state; ok = ap (λ r. beside r p.1.state) (h p.0); marks = p.1.marks })

-- a number that is due
pub record NumberReads (low high : ℕ) (s t : State) (n : ℕ) : Type 0 where
  pub reads : Reads s t (number n ∷ [])
  pub least : low ≤ n
  pub most : n ≤ high

pub number_reads : (low high : ℕ) (s t : State) (n : ℕ) → number_due low high s ≡ Ok (n, t) → NumberReads low high s t n
number_reads low high s t n e =
    let p = looked (λ at w. within low high at (numeral w)) s t n e in
    let q = within_is low high p.at (numeral p.w) n p.is in
    record { reads = subst (λ l. Reads s t (bytes l ∷ [])) (word_is_decimal p.w n q.0) p.reads; least = q.1; most = q.2 }

pub number_leaves : (low high : ℕ) (s : State) (n : ℕ) (ms : List Mark) → map mark s.tokens ≡ number n ∷ ms → low ≤ n → n ≤ high → n < 1000000000 → Leaves (number_due low high s) n ms
number_leaves low high s n ms e l h small =
    looks (λ at w. within low high at (numeral w)) s n (decimal n) ms e (λ at. ap (within low high at) (decimal_is_word n small) ∙ in_bounds low high at n l h)
