-- The lines of a case, as marks.
use Rattle.std.proofs.Common.{◌≡◌, ℕ, ◌≤◌, Bool, true, false, cond, eqb, List, [], ◌∷◌, ◌++◌, map, Ok, Err, Option, refl, ◌∙◌, subst, append_assoc, arith}
use Rattle.std.specs.List.{flat_map}
use Rattle.texts.specs.declared.faults.TextFault.TheVariants.{Form}
use Rattle.texts.specs.Judging.{State, word_due, times}
use Rattle.texts.specs.Numbers.{number_due}
use Rattle.texts.specs.Arcs.{is_byte, arc_due}
use Rattle.texts.specs.Lines.{Heading, Stop, mark_due, head_due, place_due, row_due}
use Rattle.texts.specs.Written.{Mark, bytes, newline, mark, head_line, place_line, arc_mark, row_line, HeadFine, PlaceFine, ArcFine, RowFine}
use Rattle.texts.proofs.Spelling.{granted_if}
use Rattle.texts.proofs.Marks.{Reads, reads_on, LastFeed, feed_after, Leaves, leaves_on, same_both, stepped, word_reads, word_stands, line_reads, line_leaves, number_reads, number_leaves}
use Rattle.texts.proofs.Arrows.{mark_byte, arc_reads, arc_leaves}
use Rattle.texts.proofs.Turns.{times_reads, times_leaves}

mark_reads : (s : State) (u : Unit {0}) (t : State) → mark_due s ≡ Ok (u, t) → Reads s t (bytes (77 ∷ []) ∷ [])
mark_reads s u t e =
    let p = stepped (word_due s) (λ w s. cond (is_byte 77 w.1) (Ok (tt, s)) (Err (Form w.0))) (u, t) e in
    let q = granted_if (is_byte 77 p.value.1) (Ok (tt, p.state)) (Form p.value.0) (u, t) p.on in
    subst (λ t. Reads s t (bytes (77 ∷ []) ∷ [])) (same_both q.1).1 (subst (λ l. Reads s p.state (bytes l ∷ [])) (mark_byte p.value.1 q.0) (word_reads s p.value p.state p.is))

pub head_reads : (s t : State) (h : Heading) → head_due s ≡ Ok (h, t) → Reads s t (head_line h) × HeadFine h
head_reads s t h e =
    let m = stepped (mark_due s) _ (h, t) e in
    let a = stepped (number_due 1 60 m.state) _ (h, t) m.on in
    let b = stepped (number_due 0 10000 a.state) _ (h, t) a.on in
    let c = stepped (number_due 0 60 b.state) _ (h, t) b.on in
    let d = stepped (number_due c.value 60 c.state) _ (h, t) c.on in
    let z = line_reads d.state (record { customers = a.value; capacity = b.value; least = c.value; most = d.value }) h t d.on in
    let p = number_reads 1 60 m.state a.state a.value a.is in
    let q = number_reads 0 10000 a.state b.state b.value b.is in
    let r = number_reads 0 60 b.state c.state c.value c.is in
    let u = number_reads c.value 60 c.state d.state d.value d.is in
    subst (λ k. Reads s t (head_line k) × HeadFine k) z.2 (
      reads_on (mark_reads s m.value m.state m.is) (reads_on p.reads (reads_on q.reads (reads_on r.reads (reads_on u.reads z.0)))),
      record { some = p.least; few = p.most; carries = q.most; least = u.least; most = u.most },
    )

pub place_reads : (i : ℕ) (s t : State) (h : Stop) → place_due i s ≡ Ok (h, t) → Reads s t (place_line h) × PlaceFine i h
place_reads i s t h e =
    let a = stepped (number_due 0 (cond (eqb i 0) 0 10000) s) _ (h, t) e in
    let b = stepped (number_due 0 60000 a.state) _ (h, t) a.on in
    let c = stepped (number_due b.value 60000 b.state) _ (h, t) b.on in
    let d = stepped (number_due 0 (cond (eqb i 0) 0 60000) c.state) _ (h, t) c.on in
    let z = line_reads d.state (record { load = a.value; opening = b.value; closing = c.value; service = d.value }) h t d.on in
    let p = number_reads 0 (cond (eqb i 0) 0 10000) s a.state a.value a.is in
    let q = number_reads 0 60000 a.state b.state b.value b.is in
    let r = number_reads b.value 60000 b.state c.state c.value c.is in
    let u = number_reads 0 (cond (eqb i 0) 0 60000) c.state d.state d.value d.is in
    subst (λ k. Reads s t (place_line k) × PlaceFine i k) z.2 (
      reads_on p.reads (reads_on q.reads (reads_on r.reads (reads_on u.reads z.0))),
      record { load = p.most; opening = r.least; closing = r.most; service = u.most },
    )

pub record RowReads (side i : ℕ) (s t : State) (row : List (Option (ℕ × ℕ))) : Type 0 where
  pub reads : Reads s t (row_line row)
  pub fine : RowFine side i row
  pub fed : LastFeed s t

pub row_reads : (side i : ℕ) (s t : State) (row : List (Option (ℕ × ℕ))) → row_due side i s ≡ Ok (row, t) → RowReads side i s t row
row_reads side i s t row e =
    let a = stepped (times (arc_due i) 0 side s) _ (row, t) e in
    let z = line_reads a.state a.value row t a.on in
    let p = times_reads (arc_due i) arc_mark (ArcFine i) (arc_reads i) 0 side s a.state a.value a.is in
    subst (RowReads side i s t) z.2 (record { reads = reads_on p.reads z.0; fine = (p.long, p.each); fed = feed_after p.reads z.1 })

mark_stands : (s : State) (ms : List Mark) → map mark s.tokens ≡ bytes (77 ∷ []) ∷ ms → Leaves (mark_due s) tt ms
mark_stands s ms e =
    let p = word_stands s (77 ∷ []) ms e in
    leaves_on (λ w s. cond (is_byte 77 w.1) (Ok (tt, s)) (Err (Form w.0))) p.1 (record { state = p.1.state; ok = refl; marks = p.1.marks })

pub head_leaves : (s : State) (h : Heading) (ms : List Mark) → map mark s.tokens ≡ head_line h ++ ms → HeadFine h → Leaves (head_due s) h ms
head_leaves s h ms e fine =
    let m = mark_stands s _ e in
    let a = number_leaves 1 60 m.state h.customers _ m.marks fine.some fine.few (omega (arith, fine.few)) in
    let b = number_leaves 0 10000 a.state h.capacity _ a.marks (omega arith) fine.carries (omega (arith, fine.carries)) in
    let c = number_leaves 0 60 b.state h.least _ b.marks (omega arith) (omega (arith, fine.least, fine.most)) (omega (arith, fine.least, fine.most)) in
    let d = number_leaves h.least 60 c.state h.most _ c.marks fine.least fine.most (omega (arith, fine.most)) in
    leaves_on _ m (leaves_on _ a (leaves_on _ b (leaves_on _ c (leaves_on _ d (line_leaves d.state h ms d.marks)))))

limit : (i n k : ℕ) → n ≤ cond (eqb i 0) 0 k → n ≤ k
limit i n k h = by (eqb i 0) h
  where
    by : (b : Bool) → n ≤ cond b 0 k → n ≤ k
    by true q = omega arith
    by false q = q

pub place_leaves : (i : ℕ) (s : State) (h : Stop) (ms : List Mark) → map mark s.tokens ≡ place_line h ++ ms → PlaceFine i h → Leaves (place_due i s) h ms
place_leaves i s h ms e fine =
    let a = number_leaves 0 (cond (eqb i 0) 0 10000) s h.load _ e (omega arith) fine.load (omega (arith, limit i h.load 10000 fine.load)) in
    let b = number_leaves 0 60000 a.state h.opening _ a.marks (omega arith) (omega (arith, fine.opening, fine.closing)) (omega (arith, fine.opening, fine.closing)) in
    let c = number_leaves h.opening 60000 b.state h.closing _ b.marks fine.opening fine.closing (omega (arith, fine.closing)) in
    let d = number_leaves 0 (cond (eqb i 0) 0 60000) c.state h.service _ c.marks (omega arith) fine.service (omega (arith, limit i h.service 60000 fine.service)) in
    leaves_on _ a (leaves_on _ b (leaves_on {j = number_due h.opening 60000 b.state} _ c (leaves_on {j = number_due 0 (cond (eqb i 0) 0 60000) c.state} _ d (line_leaves d.state h ms d.marks))))

pub row_leaves : (side i : ℕ) (s : State) (row : List (Option (ℕ × ℕ))) (ms : List Mark) → map mark s.tokens ≡ row_line row ++ ms → RowFine side i row → Leaves (row_due side i s) row ms
row_leaves side i s row ms e fine =
    let p = times_leaves (arc_due i) arc_mark (ArcFine i) (arc_leaves i) 0 side s row (newline ∷ ms) fine.0 (e ∙ append_assoc (flat_map arc_mark row) (newline ∷ []) ms) fine.1 in
    leaves_on _ p (line_leaves p.state row ms p.marks)
