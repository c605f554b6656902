-- Lines of bytes of which the first are known.
use Rattle.std.proofs.Common.{ℕ, ◌≡◌, ◌+◌, ◌-◌, ◌≤◌, ◌<◌, ◌≢◌, suc, zero, List, [], ◌∷◌, ◌++◌, length, take, drop, arith, refl, sym, ◌∙◌, ap, subst, append_assoc, append-nil, length-append, length-drop, eqb-true, eq-eqb, Bool, true, false, cond, ◌==◌, nat_le}
use Rattle.std.proofs.lemmas.Bool.{and_parts, ne_eqb, le-leb, lt-leb}
use Rattle.std.proofs.lemmas.List.{drop-take, take-take, length-take-le, take_all, drop_all}
use Rattle.std.proofs.lemmas.Bool.Decides.{nat_tests}
use Rattle.xv_base.specs.Lines.{lines_after, whole_lines_after, last_line, lines_within, are_too_many}
use Rattle.xv_base.specs.Limits.{longest_line}
use Rattle.std.specs.List.{list_all}
use Rattle.xv_io.specs.Reader.{line_length, is_inside}

-- ---- the length of the first line

pub line_length-hit : (b : ℕ) (bs : List ℕ) → b ≡ 10 → line_length (b ∷ bs) ≡ 0
line_length-hit b bs e = rw (eq-eqb b 10 e) refl

pub line_length-miss : (b : ℕ) (bs : List ℕ) → b ≢ 10 → line_length (b ∷ bs) ≡ line_length bs + 1
line_length-miss b bs n = rw (ne_eqb b 10 n) (omega arith)

-- behind bytes that stand inside of the first line the newline is so much nearer
pub line_length-behind : (n : ℕ) (bytes : List ℕ) → n ≤ length bytes → list_all is_inside (take n bytes) ≡ true → line_length bytes ≡ n + line_length (drop n bytes)
line_length-behind zero bytes l e = omega arith
line_length-behind (suc n) [] l e = absurd (omega (arith, l))
line_length-behind (suc n) (b ∷ bs) l e =
    let both = and_parts (is_inside b) (list_all is_inside (take n bs)) e in
    let inside : (b == 10) ≡ false = grind (arith, nat_tests) in
    let more = line_length-behind n bs (omega (arith, l)) both.1 in
    rw inside (omega (arith, more))

pub line_length-le-length : (bytes : List ℕ) → line_length bytes ≤ length bytes
line_length-le-length [] = omega arith
line_length-le-length (b ∷ bs) = at_test (b == 10) (line_length bs) (length bs) (line_length-le-length bs) where
  at_test : (t : Bool) (k l : ℕ) → k ≤ l → cond t 0 (suc k) ≤ suc l
  at_test true k l h = omega arith
  at_test false k l h = omega arith

longer_by : (t : Bool) (k l : ℕ) → k ≤ l → cond t 0 (suc k) ≤ cond t 0 (suc l)
longer_by true k l h = omega arith
longer_by false k l h = omega arith

pub line_length-append : (a left : List ℕ) → line_length a ≤ line_length (a ++ left)
line_length-append [] left = omega arith
line_length-append (b ∷ bs) left = longer_by (b == 10) (line_length bs) (line_length (bs ++ left)) (line_length-append bs left)

taken_by : (t : Bool) (m k l : ℕ) → suc m ≤ cond t 0 (suc k) → (m ≤ k → m ≤ l) → suc m ≤ cond t 0 (suc l)
taken_by true m k l h f = absurd (omega arith)
taken_by false m k l h f = let r = f (omega arith) in omega arith

line_length-take : (m n : ℕ) (bytes : List ℕ) → m ≤ n → m ≤ line_length bytes → m ≤ line_length (take n bytes)
line_length-take zero n bytes h k = omega arith
line_length-take (suc m) zero bytes h k = absurd (omega arith)
line_length-take (suc m) (suc n) [] h k = absurd (omega arith)
line_length-take (suc m) (suc n) (b ∷ bs) h k = taken_by (b == 10) m (line_length bs) (line_length (take n bs)) k (λ l. line_length-take m n bs (omega arith) l)

newline_by : (t : Bool) (b k : ℕ) (bs : List ℕ) → (b == 10) ≡ t → cond t 0 (suc k) < suc (length bs) → (k < length bs → drop k bs ≡ 10 ∷ drop (suc k) bs) → drop (cond t 0 (suc k)) (b ∷ bs) ≡ 10 ∷ drop (suc (cond t 0 (suc k))) (b ∷ bs)
newline_by true b k bs e h f = ap (λ x. x ∷ bs) (eqb-true b 10 e)
newline_by false b k bs e h f = f (omega arith)

pub newline_at : (a : List ℕ) → line_length a < length a → drop (line_length a) a ≡ 10 ∷ drop (suc (line_length a)) a
newline_at [] h = absurd (omega arith)
newline_at (b ∷ bs) h = newline_by (b == 10) b (line_length bs) bs refl h (newline_at bs)

-- ---- a line that goes on past bytes with no newline in them

skip_by : {X : Type 0} (t : Bool) (m k : ℕ) (x y z : X) → suc m ≤ cond t 0 (suc k) → (m ≤ k → y ≡ z) → cond t x y ≡ z
skip_by true m k x y z h f = absurd (omega arith)
skip_by false m k x y z h f = f (omega arith)

lines_after-skip : (m : ℕ) (line bytes : List ℕ) → m ≤ line_length bytes → lines_after line bytes ≡ lines_after (line ++ take m bytes) (drop m bytes)
lines_after-skip zero line bytes h = ap (λ l. lines_after l bytes) (sym (append-nil line))
lines_after-skip (suc m) line [] h = absurd (omega arith)
lines_after-skip (suc m) line (b ∷ bs) h = skip_by (b == 10) m (line_length bs) _ _ _ h (λ k. lines_after-skip m (line ++ b ∷ []) bs k ∙ ap (λ l. lines_after l (drop m bs)) (append_assoc line (b ∷ []) (take m bs)))

whole_lines_after-skip : (m : ℕ) (line bytes : List ℕ) → m ≤ line_length bytes → whole_lines_after line bytes ≡ whole_lines_after (line ++ take m bytes) (drop m bytes)
whole_lines_after-skip zero line bytes h = ap (λ l. whole_lines_after l bytes) (sym (append-nil line))
whole_lines_after-skip (suc m) line [] h = absurd (omega arith)
whole_lines_after-skip (suc m) line (b ∷ bs) h = skip_by (b == 10) m (line_length bs) _ _ _ h (λ k. whole_lines_after-skip m (line ++ b ∷ []) bs k ∙ ap (λ l. whole_lines_after l (drop m bs)) (append_assoc line (b ∷ []) (take m bs)))

-- ---- a whole line

lines_after-newline : (k : ℕ) (bytes more : List ℕ) → k ≤ line_length bytes → drop k bytes ≡ 10 ∷ more → lines_after [] bytes ≡ take k bytes ∷ lines_after [] more
lines_after-newline k bytes more h e = lines_after-skip k [] bytes h ∙ ap (λ r. lines_after (take k bytes) r) e

pub whole_lines_after-newline : (k : ℕ) (bytes more : List ℕ) → k ≤ line_length bytes → drop k bytes ≡ 10 ∷ more → whole_lines_after [] bytes ≡ take k bytes ∷ whole_lines_after [] more
whole_lines_after-newline k bytes more h e = whole_lines_after-skip k [] bytes h ∙ ap (λ r. whole_lines_after (take k bytes) r) e

-- bytes with no newline in them, and no more than a line may have, hold no whole line
pub whole_lines-none : (a : List ℕ) → line_length a ≡ length a → length a ≤ longest_line → whole_lines_after [] a ≡ []
whole_lines-none a e h =
    whole_lines_after-skip (length a) [] a (omega (arith, e)) ∙ ap (λ r. whole_lines_after (take (length a) a) r) (drop_all (length a) a (omega arith)) ∙ ap (λ l. whole_lines_after l []) (take_all (length a) a (omega arith)) ∙ ap (λ t. cond t (a ∷ []) []) (lt-leb (suc longest_line) (length a) (omega arith))

-- what is taken of bytes goes on with what is taken behind a newline
taken_newline : (k m : ℕ) (bytes more : List ℕ) → drop k bytes ≡ 10 ∷ more → drop k (take (k + suc m) bytes) ≡ 10 ∷ take m more
taken_newline k m bytes more e = drop-take k (suc m) bytes ∙ ap (take (suc m)) e

cond_cons : (t : Bool) (line : List ℕ) (w l v m : List (List ℕ)) → w ≡ line ∷ v → l ≡ line ∷ m → cond t w l ≡ line ∷ cond t v m
cond_cons true line w l v m h k = h
cond_cons false line w l v m h k = k

length-newline : (k : ℕ) (bytes more : List ℕ) → drop k bytes ≡ 10 ∷ more → length bytes ≡ k + suc (length more)
length-newline k bytes more e = grind (arith, length-drop k bytes, ap length e)

same_test : (n k a b : ℕ) → k < n → a ≡ k + suc b → nat_le n a ≡ nat_le (n - suc k) b
same_test n k a b h e = grind (arith, nat_tests)

pub gives_newline : (n k : ℕ) (bytes more : List ℕ) → k ≤ line_length bytes → drop k bytes ≡ 10 ∷ more → k < n → (lines_within n bytes ≡ take k bytes ∷ lines_within (n - suc k) more) × (are_too_many n bytes ≡ are_too_many (n - suc k) more)
gives_newline n k bytes more h e w =
    let m = n - suc k in
    let same : nat_le n (length bytes) ≡ nat_le m (length more) = same_test n k (length bytes) (length more) w (length-newline k bytes more e) in
    let split : n ≡ k + suc m = omega arith in
    let whole : whole_lines_after [] (take n bytes) ≡ take k bytes ∷ whole_lines_after [] (take m more) =
    whole_lines_after-newline k (take n bytes) (take m more) (line_length-take k n bytes (omega arith) h) (ap (λ x. drop k (take x bytes)) split ∙ taken_newline k m bytes more e)
    ∙ ap (λ l. l ∷ whole_lines_after [] (take m more)) (take-take k n bytes (omega arith)) in
    (ap (λ t. cond t (whole_lines_after [] (take n bytes)) (lines_after [] bytes)) same ∙ cond_cons (nat_le m (length more)) (take k bytes) _ _ _ _ whole (lines_after-newline k bytes more h e), same)

-- ---- the last line

last_line-is : (a : List ℕ) → 0 < length a → last_line a ≡ a ∷ []
last_line-is [] h = absurd (omega arith)
last_line-is (b ∷ bs) h = refl

pub gives_last : (n : ℕ) (a : List ℕ) → length a ≤ line_length a → 0 < length a → length a < n → (lines_within n a ≡ a ∷ lines_within (n - length a) []) × (are_too_many n a ≡ are_too_many (n - length a) [])
gives_last n a h p w =
    let few : nat_le n (length a) ≡ false = lt-leb n (length a) w in
    let none : nat_le (n - length a) 0 ≡ false = lt-leb (n - length a) 0 (omega arith) in
    let all : lines_after [] a ≡ a ∷ [] =
    lines_after-skip (length a) [] a h ∙ ap (λ r. lines_after (take (length a) a) r) (drop_all (length a) a (omega arith)) ∙ ap (λ l. lines_after l []) (take_all (length a) a (omega arith)) ∙ last_line-is a p in
    let left : lines_within n a ≡ a ∷ [] = ap (λ t. cond t (whole_lines_after [] (take n a)) (lines_after [] a)) few ∙ all in
    let right : lines_within (n - length a) [] ≡ [] = ap (λ t. cond t (whole_lines_after [] (take (n - length a) [])) []) none in
    (left ∙ ap (λ r. a ∷ r) (sym right), few ∙ sym none)

-- ---- a long line

abbrev pub BeginsLong : List (List ℕ) → Type 0
BeginsLong lines = (line : List ℕ) × (more : List (List ℕ)) × (lines ≡ line ∷ more) × (longest_line < length line)

long_by : (t : Bool) (line : List ℕ) (more rest : List (List ℕ)) → longest_line < length line → BeginsLong rest → BeginsLong (cond t (line ∷ more) rest)
long_by true line more rest h r = (line, more, refl, h)
long_by false line more rest h r = r

lines_after-long : (line bytes : List ℕ) → longest_line < length line → BeginsLong (lines_after line bytes)
lines_after-long line [] h = (line, [], last_line-is line (omega arith), h)
lines_after-long line (b ∷ bs) h = long_by (b == 10) line (lines_after [] bs) (lines_after (line ++ b ∷ []) bs) h (lines_after-long (line ++ b ∷ []) bs (omega (arith, length-append line (b ∷ []))))

whole_lines_after-long : (line bytes : List ℕ) → longest_line < length line → BeginsLong (whole_lines_after line bytes)
whole_lines_after-long line [] h = (line, [], ap (λ t. cond t (line ∷ []) []) (le-leb (suc longest_line) (length line) (omega arith)), h)
whole_lines_after-long line (b ∷ bs) h = long_by (b == 10) line (whole_lines_after [] bs) (whole_lines_after (line ++ b ∷ []) bs) h (whole_lines_after-long (line ++ b ∷ []) bs (omega (arith, length-append line (b ∷ []))))

cond_long : (t : Bool) (w l : List (List ℕ)) → BeginsLong w → BeginsLong l → BeginsLong (cond t w l)
cond_long true w l h k = h
cond_long false w l h k = k

length-taken : (m : ℕ) (bytes : List ℕ) → m ≤ line_length bytes → length (take m bytes) ≡ m
length-taken m bytes h = length-take-le m bytes (omega (arith, line_length-le-length bytes))

-- more bytes than a line may have, with no newline in them
lines_after-longer : (m : ℕ) (bytes : List ℕ) → longest_line < m → m ≤ line_length bytes → BeginsLong (lines_after [] bytes)
lines_after-longer m bytes g h = subst BeginsLong (sym (lines_after-skip m [] bytes h)) (lines_after-long (take m bytes) (drop m bytes) (omega (arith, length-taken m bytes h)))

whole_lines_after-longer : (m : ℕ) (bytes : List ℕ) → longest_line < m → m ≤ line_length bytes → BeginsLong (whole_lines_after [] bytes)
whole_lines_after-longer m bytes g h = subst BeginsLong (sym (whole_lines_after-skip m [] bytes h)) (whole_lines_after-long (take m bytes) (drop m bytes) (omega (arith, length-taken m bytes h)))

pub begins_long : (n : ℕ) (a left : List ℕ) → longest_line < line_length a → longest_line < n → BeginsLong (lines_within n (a ++ left))
begins_long n a left h w =
    let bytes = a ++ left in
    let far : (suc longest_line) ≤ line_length bytes = omega (arith, line_length-append a left) in
    cond_long (nat_le n (length bytes)) _ _ (whole_lines_after-longer (suc longest_line) (take n bytes) (omega arith) (line_length-take (suc longest_line) n bytes (omega arith) far)) (lines_after-longer (suc longest_line) bytes (omega arith) far)

-- ---- the end of what may be given

pub none_within : (n : ℕ) (a left : List ℕ) → n ≤ line_length a → n ≤ longest_line → (lines_within n (a ++ left) ≡ []) × (are_too_many n (a ++ left) ≡ true)
none_within n a left h w =
    let bytes = a ++ left in
    let far : n ≤ line_length bytes = omega (arith, line_length-append a left) in
    let many : nat_le n (length bytes) ≡ true = le-leb n (length bytes) (omega (arith, line_length-le-length bytes)) in
    let taken = take n bytes in
    let len : length taken ≡ n = length-taken n bytes far in
    let all : whole_lines_after [] taken ≡ [] =
    whole_lines_after-skip n [] taken (line_length-take n n bytes (omega arith) far) ∙ ap (λ r. whole_lines_after (take n taken) r) (drop_all n taken (omega (arith, len))) ∙ ap (λ l. whole_lines_after l []) (take_all n taken (omega (arith, len))) ∙ ap (λ t. cond t (taken ∷ []) []) (lt-leb (suc longest_line) (length taken) (omega (arith, len))) in
    (ap (λ t. cond t (whole_lines_after [] taken) (lines_after [] bytes)) many ∙ all, many)
