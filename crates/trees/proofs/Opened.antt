-- The head of a granted file.
use Rattle.std.proofs.Common.{◌≡◌, ℕ, zero, suc, ◌≤◌, Bool, true, false, cond, not, ◌||◌, eqb, ltb, List, ◌∷◌, ◌++◌, length, get_or, take, drop, Some, None, Ok, Err, Option, Result, sym, refl, ap, ◌∙◌, arith}
use Rattle.std.specs.List.{AllByRecursion}
use Rattle.std.proofs.lemmas.Slice.Eq.{bytes_eq-Decides}
use Rattle.std.proofs.lemmas.List.{take-append-drop}
use Rattle.std.proofs.lemmas.Bool.{cond_both, or_parts, not-false, eqb-true, eqb-false, ltb-false}
use Rattle.trees.specs.declared.faults.TreeFault.{TreeFault}
use Rattle.trees.specs.declared.faults.TreeFault.TheVariants.{Head}
use Rattle.trees.specs.declared.kind.Kind.{Kind}
use Rattle.trees.specs.declared.kind.Kind.TheVariants.{Time, Load, TimeLoad}
use Rattle.trees.specs.declared.head.TreeHead.{TreeHead}
use Rattle.trees.specs.Numbers.{short_at, short_bytes}
use Rattle.trees.specs.Kinds.{kind_of}
use Rattle.trees.specs.Tree.{mark, kinded, head_answer}
use Rattle.trees.specs.Files.{kind_byte, head_bytes}
use Rattle.trees.proofs.Bytes.{Byte, drop_two, short_here}

ok_else : {X : Type 0} (b : Bool) (f : TreeFault) (r : Result X TreeFault) (y : X) → cond b (Err f) r ≡ Ok y → (b ≡ false) × (r ≡ Ok y)
ok_else true f r y e = absurd (let z : ◌≡◌ {A = ℕ} 0 1 = cc in omega arith)
ok_else false f r y e = (refl, e)

kind_read : (b : ℕ) (kind : Kind) → kind_of b ≡ Some kind → b ≡ kind_byte kind
kind_read b kind =
    cond_both (eqb b 1) _ _ (λ o. o ≡ Some kind → b ≡ kind_byte kind)
    (λ t e. let same : Time ≡ kind = cc in eqb-true b 1 t ∙ ap kind_byte same)
    (λ _. cond_both (eqb b 2) _ _ (λ o. o ≡ Some kind → b ≡ kind_byte kind)
    (λ t e. let same : Load ≡ kind = cc in eqb-true b 2 t ∙ ap kind_byte same)
    (λ _. cond_both (eqb b 3) _ _ (λ o. o ≡ Some kind → b ≡ kind_byte kind)
    (λ t e. let same : TimeLoad ≡ kind = cc in eqb-true b 3 t ∙ ap kind_byte same)
    (λ _ e. absurd (let z : ◌≡◌ {A = ℕ} 0 1 = cc in omega arith))))

record Kinded (bytes : List ℕ) (n : ℕ) (found : Option Kind) (h : TreeHead) : Type 0 where
  kind : found ≡ Some h.kind
  customers : get_or bytes 5 0 ≡ n
  count : short_at bytes 6 ≡ h.count
  some : 1 ≤ h.count
  most : h.count ≤ 2000

positive : (m : ℕ) → (m ≡ 0 → ⊥) → 1 ≤ m
positive zero none = absurd (none refl)
positive (suc m) none = omega arith

is_kinded : (bytes : List ℕ) (n : ℕ) (kind : Option Kind) (h : TreeHead) → kinded bytes n kind ≡ Ok h → Kinded bytes n kind h
is_kinded bytes n None h e = absurd (let z : ◌≡◌ {A = ℕ} 0 1 = cc in omega arith)
is_kinded bytes n (Some kind) h e =
    let a = ok_else (not (eqb (get_or bytes 5 0) n)) _ _ h e in
    let count = short_at bytes 6 in
    let b = ok_else (eqb count 0 || ltb 2000 count) (Head 6) (Ok (record { kind = kind; count = count })) h a.1 in
    let c = or_parts (eqb count 0) (ltb 2000 count) b.0 in
    let same : ◌≡◌ {A = TreeHead} (record { kind = kind; count = short_at bytes 6 }) h = cc b.1 in
    let many : short_at bytes 6 ≡ h.count = ap (λ x. x.count) same in
    record {
      kind = ap (λ x. Some x.kind) same;
      customers = eqb-true _ _ (not-false _ a.0);
      count = many;
      some = omega (arith, positive (short_at bytes 6) (eqb-false (short_at bytes 6) 0 c.0));
      most = omega (arith, ltb-false 2000 (short_at bytes 6) c.1);
    }

pub record Opened (bytes : List ℕ) (n : ℕ) (h : TreeHead) : Type 0 where
  pub is : bytes ≡ head_bytes h.kind n h.count ++ drop 8 bytes
  pub some : 1 ≤ h.count
  pub most : h.count ≤ 2000

pub is_opened : (bytes : List ℕ) (n : ℕ) (h : TreeHead) → AllByRecursion Byte bytes → head_answer bytes n ≡ Ok h → Opened bytes n h
is_opened bytes n h all e =
    let a = ok_else _ _ (kinded bytes n (kind_of (get_or bytes 4 0))) h e in
    let b = or_parts _ _ a.0 in
    let long : 8 ≤ length bytes = ltb-false (length bytes) 8 b.0 in
    let marked : take 4 bytes ≡ mark = (bytes_eq-Decides (take 4 bytes) mark).0 (not-false _ b.1) in
    let k = is_kinded bytes n (kind_of (get_or bytes 4 0)) h a.1 in
    let kind : get_or bytes 4 0 ≡ kind_byte h.kind = kind_read (get_or bytes 4 0) h.kind k.kind in
    let rest : drop 6 bytes ≡ short_bytes h.count ++ drop 8 bytes = sym (short_here bytes 6 all long) ∙ ap (λ c. short_bytes c ++ drop 8 bytes) k.count in
    record {
      is = sym (take-append-drop 4 bytes) ∙ ap (λ m. m ++ drop 4 bytes) marked ∙ ap (λ t. mark ++ t) (drop_two bytes 4 (omega arith))
          ∙ ap (λ b. mark ++ (b ∷ get_or bytes 5 0 ∷ drop 6 bytes)) kind
          ∙ ap (λ b. mark ++ (kind_byte h.kind ∷ b ∷ drop 6 bytes)) k.customers
          ∙ ap (λ t. mark ++ (kind_byte h.kind ∷ n ∷ t)) rest;
      some = k.some;
      most = k.most;
    }
