mod Counting
mod NumberRules
mod DirectRules
