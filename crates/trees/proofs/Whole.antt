-- A file is granted exactly when it is the one of a tree's records.
use Rattle.std.proofs.Common.{◌≡◌, ℕ, zero, suc, ◌+◌, ◌*◌, ◌<◌, ◌≤◌, List, [], ◌++◌, length, get_or, drop, Some, None, Ok, Option, Result, sym, refl, ap, ◌∙◌, subst, arith, w8, Fits}
use Rattle.std.specs.List.{AllByRecursion}
use Rattle.std.proofs.ByRecursion.{All-get_or, All-from_get_or}
use Rattle.trees.specs.declared.faults.TreeFault.{TreeFault}
use Rattle.trees.specs.declared.kind.Kind.{Kind}
use Rattle.trees.specs.declared.head.TreeHead.{TreeHead}
use Rattle.trees.specs.declared.records.Record.{Record}
use Rattle.trees.specs.Tree.{after, head_answer, pairs_answer, tree_answer, as_found, record_answer}
use Rattle.trees.specs.Files.{head_bytes, directory, contents, tree_bytes, Records, Found, Recorded, start_of, ReadsTree}
use Rattle.trees.proofs.Bytes.{Byte}
use Rattle.trees.proofs.Granted.{ok_after, parts, length_parts, parts_filled, parts_contents, parts_directory}
use Rattle.trees.proofs.Opened.{is_opened}
use Rattle.trees.proofs.Written.{tree_granted, tree_found, tree_at}

filled_from : (bytes : List ℕ) (from count : ℕ) → 1 ≤ count → pairs_answer bytes 0 from count ≡ Ok tt → contents (parts bytes 0 count) ≡ drop from bytes
filled_from bytes from zero some e = absurd (omega arith)
filled_from bytes from (suc more) some e = parts_contents bytes 0 from more e

-- what a granted file is
record Tree (bytes : List ℕ) (n : ℕ) (h : TreeHead) : Type 0 where
  rs : List (List ℕ)
  fit : Records rs
  count : length rs ≡ h.count
  is : bytes ≡ tree_bytes h.kind n rs

made_tree : (bytes : List ℕ) (n : ℕ) (h : TreeHead) → AllByRecursion Byte bytes → head_answer bytes n ≡ Ok h → pairs_answer bytes 0 (8 + 8 * h.count) h.count ≡ Ok tt → Tree bytes n h
made_tree bytes n h all opened granted =
    let o = is_opened bytes n h all opened in
    let rs = parts bytes 0 h.count in
    let from = 8 + 8 * h.count in
    let many : length rs ≡ h.count = length_parts bytes 0 h.count in
    let past : 8 + 8 * (0 + h.count) ≡ from = omega arith in
    let rest : drop 8 bytes ≡ directory from rs ++ contents rs =
    sym (parts_directory bytes 0 from h.count all granted)
    ∙ ap (λ i. directory from rs ++ drop i bytes) past
    ∙ ap (λ t. directory from rs ++ t) (sym (filled_from bytes from h.count o.some granted)) in
    record {
      rs = rs;
      fit = record { some = omega (arith, o.some); most = omega (arith, o.most); filled = parts_filled bytes 0 from h.count granted };
      count = many;
      is = o.is
          ∙ ap (λ t. head_bytes h.kind n h.count ++ t) rest
          ∙ ap (λ c. head_bytes h.kind n c ++ (directory (8 + 8 * c) rs ++ contents rs)) (sym many);
    }

is_tree : (bytes : List ℕ) (n : ℕ) (h : TreeHead) → AllByRecursion Byte bytes → tree_answer bytes n ≡ Ok h → Tree bytes n h
is_tree bytes n h all e =
    let a = ok_after (head_answer bytes n) (λ g. after (pairs_answer bytes 0 (8 + 8 * g.count) g.count) λ _. Ok g) h e in
    let g : TreeHead = a.0 in
    let b = ok_after (pairs_answer bytes 0 (8 + 8 * g.count) g.count) (λ _. Ok g) h a.2 in
    let same : g ≡ h = cc b.2 in
    subst (Tree bytes n) same (made_tree bytes n g all a.1 b.1)

found : (bytes : List ℕ) (n : ℕ) (kind : Kind) (rs : List (List ℕ)) → bytes ≡ tree_bytes kind n rs → Found bytes rs
found bytes n kind rs is k l = ap (λ b. record_answer b k) is ∙ tree_found kind n rs k l

recorded : (bytes : List ℕ) (n : ℕ) (h : TreeHead) → Tree bytes n h → (k : ℕ) → k < h.count → Recorded bytes k
recorded bytes n h t k l =
    let in' : k < length t.rs = omega (arith, t.count) in
    let stands = tree_at h.kind n t.rs k in' in
    (start_of t.rs k, get_or t.rs k [], found bytes n h.kind t.rs t.is k in', All-get_or (λ r. 1 ≤ length r) t.rs k [] in' t.fit.filled, omega (arith, stands.within, ap length t.is))

pub reads_tree : (bytes : List ℕ) (n : ℕ) (r : Result TreeHead TreeFault) → ((i : ℕ) → Fits w8 (get_or bytes i 0)) → r ≡ tree_answer bytes n → ReadsTree bytes n r
reads_tree bytes n r typed e =
    let all : AllByRecursion Byte bytes = All-from_get_or Byte bytes 0 (λ i _. omega (arith, typed i)) in
    record {
      tree_is_granted = λ kind rs fit is. (e ∙ ap (λ b. tree_answer b n) is ∙ tree_granted kind n rs fit, found bytes n kind rs is);
      granted_is_tree = λ h ok. let t = is_tree bytes n h all (sym e ∙ ok) in (t.rs, t.fit, t.count, t.is, found bytes n h.kind t.rs t.is);
      granted_has_records = λ h ok. recorded bytes n h (is_tree bytes n h all (sym e ∙ ok));
    }

-- where record k is recorded, what answers as it is found is a part with a byte or more, within the file
pub found_part : (bytes : List ℕ) (k : ℕ) (r : Option Record) → as_found r ≡ record_answer bytes k → Recorded bytes k → (p : Record) × (r ≡ Some p) × (1 ≤ length p.bytes.now) × (p.offset + length p.bytes.now ≤ length bytes)
found_part bytes k None e it = absurd (let z : ◌≡◌ {A = ℕ} 0 1 = cc (e, it.2) in omega arith)
found_part bytes k (Some p) e it =
    let same : ◌≡◌ {A = ℕ × List ℕ} (p.offset, p.bytes.now) (it.0, it.1) = cc (e, it.2) in
    let at : p.offset ≡ it.0 = ap (λ q. q.0) same in
    let part : p.bytes.now ≡ it.1 = ap (λ q. q.1) same in
    (p, refl, omega (arith, it.3, ap length part), omega (arith, it.4, ap length part))
