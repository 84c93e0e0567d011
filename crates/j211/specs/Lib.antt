-- J211: 02's Q-1, a whole pulse filtered by a channel class of SAE J211-1.
pub mod J211
