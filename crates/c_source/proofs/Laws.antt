-- The public laws (src/law.rt), each with its proof: what the proofs of other crates may cite.
use Rattle.c_source.specs.Reads.{HasOneReading, HasOneRefusal, ReadIsNotRefused, RefusalIsNoWant}
use Rattle.c_source.specs.ReadsCondition.{HasOneCondition, HasOneConditionRefusal, ReadConditionIsNotRefused, ConditionRefusalIsNoWant}
use Rattle.c_source.proofs.Functions as functions
use Rattle.c_source.proofs.Conditions as conditions

-- ---- functions

pub one_reading : HasOneReading
one_reading = functions.reading_once

pub one_refusal : HasOneRefusal
one_refusal = functions.refusal_once

pub read_is_not_refused : ReadIsNotRefused
read_is_not_refused = functions.not_refused

pub refusal_is_no_want : RefusalIsNoWant
refusal_is_no_want = functions.refusal-no_want

-- ---- conditions

pub one_condition : HasOneCondition
one_condition = conditions.condition_once

pub one_condition_refusal : HasOneConditionRefusal
one_condition_refusal = conditions.refusal_once

pub read_condition_is_not_refused : ReadConditionIsNotRefused
read_condition_is_not_refused = conditions.not_refused

pub condition_refusal_is_no_want : ConditionRefusalIsNoWant
condition_refusal_is_no_want = conditions.refusal-no_want
