-- Appends in turn.
use Rattle.std.proofs.Common.{ℕ, ◌≡◌, ◌+◌, ◌-◌, ◌≤◌, List, [], ◌++◌, length, take, drop, min, Option, Some, None, arith, subst, sym, ◌∙◌, length-append}
use Rattle.std.proofs.lemmas.Grind.{common_steps}
use Rattle.std.proofs.Math.Seq.{take-add, take-append-add}
use Rattle.std.specs.Io.KnownBytes.{Appends}
use Rattle.std.proofs.KnownBytes.{Appends-nil}
use Rattle.std.proofs.lemmas.List.{take_all, take_min, take-append-le}
use Rattle.xv_io.specs.Faults.{AppendsPrefix, AppendsPart}

pub appends_both : (a b c : Option (List ℕ)) (x y : List ℕ) → Appends a b x → Appends b c y → Appends a c (x ++ y)
appends_both None b c x y h k = tt
appends_both (Some xs) None c x y h k = absurd h
appends_both (Some xs) (Some ys) None x y h k = absurd k
appends_both (Some xs) (Some ys) (Some zs) x y h k = grind (arith, common_steps)

pub appends_more : (a b c : Option (List ℕ)) (from : List ℕ) (i n : ℕ) → Appends a b (take i from) → Appends b c (take n (drop i from)) → Appends a c (take (i + n) from)
appends_more a b c from i n h k = subst (λ bs. Appends a c bs) (sym (take-add i n from)) (appends_both a b c _ _ h k)

-- the rest from i on, as it is passed
pub rest_from : (from : List ℕ) (i : ℕ) → take (length from - i) (drop i from) ≡ drop i from
rest_from from i = grind (arith, common_steps)

pub length-rest : (from : List ℕ) (i n : ℕ) → i ≤ length from → n ≤ length (take (length from - i) (drop i from)) → i + n ≤ length from
length-rest from i n w h = grind (arith, common_steps)

-- ---- writes of some of the first bytes

pub appends_none : (a : Option (List ℕ)) → Appends a a []
appends_none a = Appends-nil a

pub prefix_none : (a : Option (List ℕ)) (bytes : List ℕ) → AppendsPrefix a a bytes
prefix_none a bytes = (0, Appends-nil a)

-- a whole append is a prefix
pub prefix_whole : (a b : Option (List ℕ)) (x : List ℕ) → Appends a b x → AppendsPrefix a b x
prefix_whole a b x h = (length x, subst (Appends a b) (sym (take_all (length x) x (omega arith))) h)

pub prefix_after : (a b c : Option (List ℕ)) (x y : List ℕ) → Appends a b x → AppendsPrefix b c y → AppendsPrefix a c (x ++ y)
prefix_after a b c x y h k = (length x + k.0, subst (Appends a c) (sym (take-append-add x y k.0)) (appends_both a b c x (take k.0 y) h k.1))

pub prefix_more : (a c : Option (List ℕ)) (x y : List ℕ) → AppendsPrefix a c x → AppendsPrefix a c (x ++ y)
prefix_more a c x y h =
    let k = min h.0 (length x) in
    let low : k ≤ length x = omega arith in
    let same : take h.0 x ≡ take k (x ++ y) = sym (take_min h.0 x) ∙ sym (take-append-le k x y low) in
    (k, subst (Appends a c) same h.1)

-- ---- writes of some of the first bytes, and not of all

pub part_more : (a c : Option (List ℕ)) (x y : List ℕ) → AppendsPart a c x → AppendsPart a c (x ++ y)
part_more a c x y h =
    let low : h.0 ≤ length x = omega (arith, h.1) in
    (h.0, omega (arith, h.1, length-append x y), subst (Appends a c) (sym (take-append-le h.0 x y low)) h.2)

pub part_after : (a b c : Option (List ℕ)) (x y : List ℕ) → Appends a b x → AppendsPart b c y → AppendsPart a c (x ++ y)
part_after a b c x y h k =
    (length x + k.0, omega (arith, k.1, length-append x y), subst (Appends a c) (sym (take-append-add x y k.0)) (appends_both a b c x (take k.0 y) h k.2))

pub prefix_part : (a c : Option (List ℕ)) (x : List ℕ) → AppendsPart a c x → AppendsPrefix a c x
prefix_part a c x h = (h.0, h.2)
