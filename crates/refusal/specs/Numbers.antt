-- 01, "Refused for the input, refused for the state": each number by a name.
use Rattle.std.specs.Prelude.{ℕ}
use Rattle.refusal.specs.declared.Refusal.{Refusal}
use Rattle.refusal.specs.declared.Refusal.TheVariants.{NotAdmitted, BadSettings, NoLeaf, BadCounts, NoDraw, BadLength, UnknownVersion, BadField, ShortBuffer, NotGrown, FullTree, NotAsked, NoRule, FullTally, NoSplit, BadTrace, ZeroState, UnfitSettings, BadRanges, ShortList, NoSplitList}

-- "moment not admitted, or a single action not valid"
abbrev pub not_admitted : ℕ
not_admitted = 1

-- "settings, their actions included; lo above hi, or hi too large"
abbrev pub bad_settings : ℕ
bad_settings = 2

-- "no such leaf"
abbrev pub no_leaf : ℕ
no_leaf = 3

-- "counts: not one per node, above 0 at a parent, or total over 2^53"
abbrev pub bad_counts : ℕ
bad_counts = 4

-- "a due draw absent or outside lo..=hi"
abbrev pub no_draw : ℕ
no_draw = 5

-- "fewer than 4 bytes, or the u32 over 16,384 or not the bytes that follow"
abbrev pub bad_length : ℕ
bad_length = 6

-- "no version byte, or unknown"
abbrev pub unknown_version : ℕ
unknown_version = 7

-- "any other field, or bytes that end early or run on for the split count"
abbrev pub bad_field : ℕ
bad_field = 8

-- "buffer shorter than the record"
abbrev pub short_buffer : ℕ
short_buffer = 9

-- "a tree or trainer value, or node slice, not grown from the root leaf by splits or holding what the record's rules exclude"
abbrev pub not_grown : ℕ
not_grown = 10

-- "a 65th split"
abbrev pub full_tree : ℕ
full_tree = 20

-- "other kind of answer than the phase wants, or done"
abbrev pub not_asked : ℕ
not_asked = 21

-- "where lookup gives none, the ack is refused with 22"
abbrev pub no_rule : ℕ
no_rule = 22

-- "a tally that reaches a leaf with the total already 2^53"
abbrev pub full_tally : ℕ
full_tally = 23

-- 02, wish 2: "Taking back with no split made is refused with 24"
abbrev pub no_split : ℕ
no_split = 24

-- 02, wish 3: "is refused whole with 25, after the record's 6 to 8"
abbrev pub bad_trace : ℕ
bad_trace = 25

-- 02, wish 7: "A state of four zeros is refused with 26"
abbrev pub zero_state : ℕ
zero_state = 26

-- 02, wish 10: "27 is given if an upper end differs, if the stage is above the new rule_splits, ..."
abbrev pub unfit_settings : ℕ
unfit_settings = 27

-- 02, wish 12: "A NaN end or a lowest above its highest is refused with 28"
abbrev pub bad_ranges : ℕ
bad_ranges = 28

-- 02, wish 12: "and then a list shorter than the number of leaves found with 29"
abbrev pub short_list : ℕ
short_list = 29

-- 02, wish 14: "An n above 3, or a list that isn't one of them, is refused with 30"
abbrev pub no_split_list : ℕ
no_split_list = 30

-- the number of a refusal
unfoldable pub number_of : Refusal → ℕ
number_of NotAdmitted = not_admitted
number_of BadSettings = bad_settings
number_of NoLeaf = no_leaf
number_of BadCounts = bad_counts
number_of NoDraw = no_draw
number_of BadLength = bad_length
number_of UnknownVersion = unknown_version
number_of BadField = bad_field
number_of ShortBuffer = short_buffer
number_of NotGrown = not_grown
number_of FullTree = full_tree
number_of NotAsked = not_asked
number_of NoRule = no_rule
number_of FullTally = full_tally
number_of NoSplit = no_split
number_of BadTrace = bad_trace
number_of ZeroState = zero_state
number_of UnfitSettings = unfit_settings
number_of BadRanges = bad_ranges
number_of ShortList = short_list
number_of NoSplitList = no_split_list
