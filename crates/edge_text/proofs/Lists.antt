-- The edges of lines one after another.
use Rattle.std.proofs.Common.{◌≡◌, ℕ, ◌+◌, List, [], ◌∷◌, ◌++◌, length, suc, Result, Ok, Err, refl, sym, ◌∙◌, ap, arith, add-zero}
use Rattle.std.proofs.lemmas.List.{append_assoc, length-append}
use Rattle.lumos_base.specs.declared.records.Edge.{Edge}
use Rattle.edge_text.specs.Reading.{all_before, line_before, line_edge, line_of, read_lines}
use Rattle.edge_text.specs.declared.fault.TextLimits.{TextLimits}
use Rattle.edge_text.specs.declared.fault.TextFault.{TextFault}

all_before-nil : (r : Result (List Edge) TextFault) → all_before [] r ≡ r
all_before-nil (Ok others) = refl
all_before-nil (Err fault) = refl

all_before-append : (xs ys : List Edge) (r : Result (List Edge) TextFault) → all_before xs (all_before ys r) ≡ all_before (xs ++ ys) r
all_before-append xs ys (Ok others) = ap Ok (sym (append_assoc xs ys others))
all_before-append xs ys (Err fault) = refl

-- a line and others that were read
pub record HaveRead (first : Result (List Edge) TextFault) (others : List Edge → Result (List Edge) TextFault) (edges : List Edge) : Type 0 where
  pub made : List Edge
  pub rest : List Edge
  pub line : first ≡ Ok made
  pub lines : others made ≡ Ok rest
  pub all : edges ≡ made ++ rest

have_others : (made : List Edge) (others : List Edge → Result (List Edge) TextFault) (r : Result (List Edge) TextFault) (edges : List Edge) → others made ≡ r → all_before made r ≡ Ok edges → HaveRead (Ok made) others edges
have_others made others (Err fault) edges is h = absurd (cc)
have_others made others (Ok rest) edges is h = record { made = made; rest = rest; line = refl; lines = is; all = cc }

pub have_read : (first : Result (List Edge) TextFault) (others : List Edge → Result (List Edge) TextFault) (edges : List Edge) → line_before first others ≡ Ok edges → HaveRead first others edges
have_read (Err fault) others edges h = absurd (cc)
have_read (Ok made) others edges h = have_others made others (others made) edges refl h

-- lines behind others that were read
pub read_lines-append : (limits : TextLimits) (line made : ℕ) (xs ys : List (List ℕ)) (edges : List Edge) → read_lines limits line made xs ≡ Ok edges →
    read_lines limits line made (xs ++ ys) ≡ all_before edges (read_lines limits (line + length xs) (made + length edges) ys)
read_lines-append limits line made [] ys edges h =
    let none : edges ≡ [] = cc in
    rw (none, add-zero line, add-zero made) (sym (all_before-nil (read_lines limits line made ys)))
read_lines-append limits line made (x ∷ xs) ys edges h =
    let r = have_read (line_of limits line made (line_edge limits x)) (λ es. read_lines limits (line + 1) (made + length es) xs) edges h in
    let others = read_lines-append limits (line + 1) (made + length r.made) xs ys r.rest r.lines in
    let count : length edges ≡ length r.made + length r.rest = ap length r.all ∙ length-append r.made r.rest in
    let l : line + 1 + length xs ≡ line + suc (length xs) = omega arith in
    let m : made + length r.made + length r.rest ≡ made + length edges = omega arith in
    ap (λ f. line_before f (λ es. read_lines limits (line + 1) (made + length es) (xs ++ ys))) r.line
    ∙ ap (all_before r.made) others
    ∙ all_before-append r.made r.rest (read_lines limits (line + 1 + length xs) (made + length r.made + length r.rest) ys)
    ∙ ap (λ n. all_before (r.made ++ r.rest) (read_lines limits n (made + length r.made + length r.rest) ys)) l
    ∙ ap (λ n. all_before (r.made ++ r.rest) (read_lines limits (line + suc (length xs)) n ys)) m
    ∙ ap (λ es. all_before es (read_lines limits (line + suc (length xs)) (made + length edges) ys)) (sym r.all)
