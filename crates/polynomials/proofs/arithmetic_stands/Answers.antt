use Rattle.std.proofs.Common.{◌≡◌, ℕ, ◌+◌, ◌^◌, sym, ap, ◌∙◌}
use lib.Bits.{bit_xor}
use Rattle.polynomials.specs.Polynomial.{clmul, product}
use Rattle.polynomials.proofs.Coefficients.{clmul_coefficient}
use Rattle.polynomials.proofs.Inverses.{inverse_found, inverse_none}
use Rattle.polynomials.proofs.Quotient.{divides, remainder_only, product_lt, product_comm, product_assoc, product_xor, product_one}
use Rattle.polynomials.proofs.Xor.{cancel}
use Rattle.polynomials.proofs.arithmetic_stands.Goals as goal

-- c = q + p and q = c + p say the same
moved : (c q p : ℕ) → c ≡ bit_xor q p → bit_xor c p ≡ q
moved c q p e = ap (λ (x : ℕ). bit_xor x p) e ∙ cancel q p

pub returns : goal.returns
unfolding product
returns c =
    record {
      arithmetic =
          record {
            remainder =
                record {
                  coefficients = λ k a b. clmul_coefficient a k b;
                  multiple = λ n r a b. let d = divides n r (clmul a b) in (d.0, moved (clmul a b) (clmul d.0 (2 ^ n + r)) (product n r a b) d.1);
                  short = λ n r a b pos hr. product_lt n r pos hr a b;
                  only = λ n r a b c q pos hr h e. remainder_only n r pos hr (clmul a b) q c h (sym (ap (λ (x : ℕ). bit_xor x c) (sym e) ∙ cancel (clmul a b) c));
                };
            ring = λ n r pos hr.
                record {
                  closed = product_lt n r pos hr;
                  comm = product_comm n r pos hr;
                  assoc = product_assoc n r pos hr;
                  distrib = product_xor n r pos hr;
                  unit = product_one n r pos hr;
                };
            inverses = λ n r pos hr. record { found = inverse_found n r pos hr; none = inverse_none n r pos hr };
          };
    }
