-- Which named term a node of the room is, and how its two numbers are read, put, and when a node fits them.
use Rattle.std.specs.Prelude.{ℕ, ◌+◌, ◌*◌, ◌/◌, ◌%◌, ◌<◌, ◌≡◌, Bool, cond, eqb, List, if◌then◌else◌, ◌==◌, ⊤}
use Rattle.nodes.specs.Store.{word, link}
use Rattle.eta.specs.Named.{Named, bound, loose, binds, joins, uses, has_zero, lone}
use Rattle.eta.specs.declared.named.Node.{Node}
use Rattle.eta.specs.declared.named.Node.TheVariants.{Bound, Free, Abstraction, Application}

-- kind 2, whether the binder is lone, and its level
abbrev pub binder_word : (level : ℕ) (alone : Bool) → ℕ
binder_word k alone = 2 + 4 * cond alone 1 0 + 8 * k

-- node n is the named term; parts have smaller numbers
unfoldable pub Names : List ℕ → Named → ℕ → Type 0
unfolding uses has_zero
Names xs (bound k) n = (word xs n ≡ 0) × (link xs n ≡ k)
Names xs (loose j) n = (word xs n ≡ 1) × (link xs n ≡ j)
Names xs (binds k b) n = (word xs n ≡ binder_word k (lone k b)) × (link xs n < n) × Names xs b (link xs n)
Names xs (joins l r) n =
    (word xs n ≡ 3) × (link xs n % 4294967296 < n) × (link xs n / 4294967296 < n)
    × Names xs l (link xs n % 4294967296) × Names xs r (link xs n / 4294967296)

-- what is read from two numbers
abbrev pub node_in : ℕ → ℕ → Node
node_in w x =
    if w % 4 == 0 then Bound x
    else (if w % 4 == 1 then Free x
    else (if w % 4 == 2 then Abstraction (record { level = w / 8; linear = eqb (w / 4 % 2) 1 }) x
    else Application (x % 4294967296) (x / 4294967296)))

abbrev pub node_at : List ℕ → ℕ → Node
node_at xs n = node_in (word xs n) (link xs n)

-- the two numbers that are put for a node
abbrev pub word_of : Node → ℕ
word_of (Bound k) = 0
word_of (Free j) = 1
word_of (Abstraction binder x) = binder_word binder.level binder.linear
word_of (Application l r) = 3

abbrev pub link_of : Node → ℕ
link_of (Bound k) = k
link_of (Free j) = j
link_of (Abstraction binder x) = x
link_of (Application l r) = l + 4294967296 * r

-- it goes into two numbers
abbrev pub Packable : Node → Type 0
Packable (Bound k) = ⊤
Packable (Free j) = ⊤
Packable (Abstraction binder x) = binder.level < 2305843009213693952
Packable (Application l r) = (l < 4294967296) × (r < 4294967296)
