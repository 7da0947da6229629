-- RFC 8554, sections 4.2, 4.3 and Appendix A: the private strings of a leaf, and its public value. Here I is a key's identifier and q a leaf's number.
use Rattle.std.specs.Prelude.{ℕ, List}
use Rattle.lms.specs.OneTime.{chain_step, walk, chain_of, key_of_ends}

-- Appendix A: the private string x_q[i] = H(I, q, i, FF, seed). A chain step with the number FF is just that hash.
unfoldable pub secret_of : List ℕ → List ℕ → ℕ → ℕ → List ℕ
secret_of seed I q i = chain_step (chain_of I q i) 0xff seed

-- The string of chain i after d steps from its beginning.
unfoldable pub string_of : List ℕ → List ℕ → ℕ → ℕ → ℕ → List ℕ
string_of seed I q i d = walk (chain_of I q i) d 0 (secret_of seed I q i)

-- Section 4.3: the end of chain i, after all 255 steps.
abbrev pub full_end : List ℕ → List ℕ → ℕ → ℕ → List ℕ
full_end seed I q i = string_of seed I q i 255

-- The leaf's public value K = H(I, q, 8080, the 34 ends).
unfoldable pub leaf_public : List ℕ → List ℕ → ℕ → List ℕ
leaf_public seed I q = key_of_ends I q (full_end seed I q)
